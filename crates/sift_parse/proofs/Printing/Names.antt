-- What the terms of a sound tree name has its name.
use Rattle.std.proofs.Common.{◌≡◌, ◌≢◌, ℕ, zero, suc, ◌<◌, ◌≤◌, ◌⊎◌, inl, inr, Bool, true, false, List, [], ◌∷◌, length, sum, Some, refl, sym, ap, ◌∙◌, arith}
use Rattle.std.specs.Str.{bytes_eq}
use Rattle.std.proofs.lemmas.Slice.Eq.{bytes_eq-Decides}
use Rattle.sift_lang.specs.Sound.{NamesWithin, NowsBelow}
use Rattle.sift_lang.specs.Tree.{Term, number, local, sense, this_frame, last_frame, minus, binary, middle}
use Rattle.sift_parse.specs.Answer.{HasSize}
use Rattle.sift_parse.specs.Outcome.{AreNames}
use Rattle.sift_parse.specs.Printable.{NamesSensor, NamesWord, IsNamingOf, HasSmallNumbers}
use Rattle.sift_parse.specs.Printing.{Naming}
use Rattle.sift_parse.specs.Roll.{Roll, first_word}
use Rattle.sift_parse.specs.Tokens.{local_of}
use Rattle.sift_parse.proofs.Printing.Finding.{name_found}
use Rattle.sift_parse.proofs.Printing.Named.{FindsSensor, IsWord, IsNamed}
use Rattle.sift_parse.proofs.Sound.Names.{word-before, word-below}

-- the roll, its names and a naming of it with so many locals, where the task has words
pub record Named (r : Roll) (N : Naming) (many : ℕ) : Type 0 where
  pub names : AreNames r
  pub size : HasSize r
  pub naming : IsNamingOf r N many

-- ---- locals

-- the names of so many locals, the newest first
abbrev pub local_names : Naming → ℕ → List (List ℕ)
local_names N zero = []
local_names N (suc k) = N.local_name k ∷ local_names N k

-- there are so many
pub local_names-many : (N : Naming) (k : ℕ) → length (local_names N k) ≡ k
local_names-many N zero = refl
local_names-many N (suc k) = let i = local_names-many N k in omega arith

-- each of them is seen by its name
pub local-found : (r : Roll) (N : Naming) (many : ℕ) → IsNamingOf r N many → (k l : ℕ) → k ≤ many → l < k
    → local_of (local_names N k) (N.local_name l) ≡ Some l
local-found r N many n zero l few lt = absurd (omega arith)
local-found r N many n (suc k) l few lt = by (bytes_eq (N.local_name k) (N.local_name l)) refl (local-found r N many n k l (omega arith))
  where
    newest : ¬ (l < k) → l ≡ k
    newest h = omega arith

    below : l ≢ k → l < k
    below h = omega arith

    differ : false ≡ true → ⊥
    differ e = cc

    by : (b : Bool) → bytes_eq (N.local_name k) (N.local_name l) ≡ b → (l < k → local_of (local_names N k) (N.local_name l) ≡ Some l)
        → local_of (local_names N (suc k)) (N.local_name l) ≡ Some l
    by true e older =
        let same = (bytes_eq-Decides (N.local_name k) (N.local_name l)).0 e in
        let here : l ≡ k = newest (λ lt. n.distinct l k lt (omega arith) same) in
        let many = local_names-many N k in
        rw e (ap (λ n. Some n) (many ∙ sym here))
    by false e older =
        rw e (older (below (λ same. differ (sym e ∙ (bytes_eq-Decides (N.local_name k) (N.local_name l)).1 (ap (λ k. N.local_name k) (sym same))))))

-- ---- terms

-- a voted word is written as its naming says
is-word : (r : Roll) (N : Naming) (w : ℕ) → AreNames r → NamesWord r N w → IsWord r N w
is-word r N w a n =
    let found = name_found r.tasks (N.task_name w) (N.task_of w) a.tasks_differ n.named in
    let below = word-below r (N.task_of w) (N.index_of w) n.within in
    let words = a.words in
    record { is_name = n.is_name; found = found; small = omega arith; within = n.within; same = n.same }

-- a sensor is found by the name that it has
finds-sensor : (r : Roll) (N : Naming) (x : ℕ) → AreNames r → NamesSensor r N x → FindsSensor r N x
finds-sensor r N x a n =
    record { is_name = n.is_name; found = name_found r.sensors (N.sensor_name x) x a.sensors_differ n.named }

-- a word of an earlier task is one of a task before this one
earlier : (r : Roll) (N : Naming) (w : ℕ) → HasSize r → NamesWord r N w → w < first_word r r.this → N.task_of w < r.this
earlier r N w size n lt = unless (N.task_of w) r.this (λ e. later (inl e)) (λ x. later (inr x))
  where
    unless : (m n : ℕ) → n ≢ m → ¬ (n < m) → m < n
    unless m n h g = omega arith

    later : (r.this ≡ N.task_of w) ⊎ (r.this < N.task_of w) → ⊥
    later (inl e) = let same = n.same in let x : first_word r r.this ≡ first_word r (N.task_of w) = ap (first_word r) e in omega arith
    later (inr after) = let same = n.same in let x = word-before r r.this (N.task_of w) 0 after size.some in omega arith

-- a term has its names, where so many locals live
pub term-named : (r : Roll) (N : Naming) (many k : ℕ) (t : Term) → Named r N many → k ≤ many → NamesWithin (length r.sensors) (sum r.sizes) k t
    → NowsBelow (first_word r r.this) t → HasSmallNumbers t → IsNamed r N (local_names N k) t
term-named r N many k (number n) is few w m s = s
term-named r N many k (local l) is few w m s =
    record { is_name = is.naming.local_names l (omega arith); found = local-found r N many is.naming k l few w }
term-named r N many k (sense x) is few w m s = finds-sensor r N x is.names (is.naming.sensors x w)
term-named r N many k (this_frame v) is few w m s = let n = is.naming.words v w in (is-word r N v is.names n, earlier r N v is.size n m)
term-named r N many k (last_frame v) is few w m s = is-word r N v is.names (is.naming.words v w)
term-named r N many k (minus t) is few w m s = term-named r N many k t is few w m s
term-named r N many k (binary op t u) is few w m s = (term-named r N many k t is few w.0 m.0 s.0, term-named r N many k u is few w.1 m.1 s.1)
term-named r N many k (middle t u v) is few w m s =
    (term-named r N many k t is few w.0 m.0 s.0, term-named r N many k u is few w.1 m.1 s.1, term-named r N many k v is few w.2 m.2 s.2)
