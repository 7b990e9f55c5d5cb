-- What reading refuses offends: what stands before it begins a task, and with the token there it doesn't.
use Rattle.std.proofs.Common.{◌≡◌, ℕ, ◌+◌, ◌≤◌, List, [], ◌∷◌, ◌++◌, ◌-◌, length, drop, refl, sym, ap, ◌∙◌, subst, arith, append_assoc, length-append}
use Rattle.std.proofs.Math.Seq.{drop-append_seam}
use Rattle.sift_parse.specs.Parsed.{OffendsAt}
use Rattle.sift_parse.specs.Parsing.{Settles}
use Rattle.std.proofs.lemmas.List.{append_cancel_right, append-nil}
use Rattle.sift_lang.specs.Tree.{Block}
use Rattle.sift_parse.specs.declared.token.Token.{Token}
use Rattle.sift_parse.specs.Grammar.{IsTask, Begins, Offends}
use Rattle.sift_parse.specs.Reading.{Outcome, found, fault}
use Rattle.sift_parse.specs.ReadingBlocks.{read_block, whole, read_task}
use Rattle.sift_parse.proofs.Parsing.Laws.{left_of, with_left, LocalAt, looks, ends}
use Rattle.sift_parse.proofs.Parsing.Steps.{Stepped, both, stepped, Failed, first_fails, second_fails, failed, then-local}
use Rattle.sift_parse.proofs.Parsing.BlockLaws.{block_lawful}
use Rattle.sift_parse.proofs.Parsing.Whole.{task_read}

whole-found : (a b : Block) (mid rest : List Token) → whole a mid ≡ found b rest → (a ≡ b) × (mid ≡ [])
whole-found a b [] rest h = (cc, refl)
whole-found a b (t ∷ mid) rest h = cc

whole-fault : (b : Block) (mid bad : List Token) → whole b mid ≡ fault bad → mid ≡ bad
whole-fault b [] bad h = cc
whole-fault b (t ∷ mid) bad h = cc

whole-local : (b : Block) (ts : List Token) → LocalAt Block (whole b) ts (whole b ts)
whole-local b [] = ends Block (whole b) (found b []) refl
whole-local b (t ∷ ts) = looks Block (whole b) t ts (fault (t ∷ ts)) refl (λ us. refl)

task-local : (fuel : ℕ) (ts : List Token) → LocalAt Block (read_task fuel) ts (read_task fuel ts)
task-local fuel ts = then-local Block Block (read_block fuel) whole whole-local ts (read_block fuel ts) ((block_lawful fuel).at_each ts)

sound-by : (fuel : ℕ) (ts rest : List Token) (b : Block) → Stepped Block Block (read_block fuel ts) whole b rest → IsTask ts b
sound-by fuel ts rest b (both a mid e f) =
    let w = whole-found a b mid rest f in
    let u = (block_lawful fuel).sound ts mid a e in
    let same : u.used ++ [] ≡ ts = ap (λ l. u.used ++ l) (sym w.1) ∙ sym u.split in
    subst (λ b. IsTask ts b) w.0 (subst (λ l. IsTask l a) same (u.anywhere []))

-- what is read whole is a task
pub task-sound : (fuel : ℕ) (ts rest : List Token) (b : Block) → read_task fuel ts ≡ found b rest → IsTask ts b
task-sound fuel ts rest b h = sound-by fuel ts rest b (stepped Block Block (read_block fuel ts) whole b rest h)

-- what stands before a fault begins a task
record Front (ts bad : List Token) : Type 0 where
  pub front : List Token
  pub split : ts ≡ front ++ bad
  pub begins : Begins front

front-by : (fuel : ℕ) (ts bad : List Token) → Failed Block Block (read_block fuel ts) whole bad → Front ts bad
front-by fuel ts bad (first_fails e) =
    let v = (block_lawful fuel).viable ts bad e in
    record {
      front = v.front;
      split = v.split;
      begins = record {
        back = v.goes.back;
        body = v.goes.made;
        whole = subst (λ l. IsTask (v.front ++ l) v.goes.made) (append-nil v.goes.back) (v.goes.rest []);
      };
    }
front-by fuel ts bad (second_fails a mid e f) =
    let u = (block_lawful fuel).sound ts mid a e in
    record { front = u.used; split = u.split ∙ ap (λ l. u.used ++ l) (whole-fault a mid bad f); begins = record { back = []; body = a; whole = u.anywhere [] } }

never : (R : List Token → Outcome Block) (ts bad used : List Token) (o : Outcome Block) (t : Token) (more : List Token) → R ts ≡ o
    → o ≡ fault bad → bad ≡ t ∷ more → (l : LocalAt Block R ts o) → l.used ≡ used → (back : List Token) (b : Block)
    → R (used ++ t ∷ back) ≡ found b [] → ⊥
never R ts bad used o t more is at split l same back b read =
    let a = l.again t more back (ap left_of at ∙ split) in
    let c : with_left o (t ∷ back) ≡ fault (t ∷ back) = ap (λ o. with_left o (t ∷ back)) at in
    let d : R (used ++ t ∷ back) ≡ with_left o (t ∷ back) = ap (λ u. R (u ++ t ∷ back)) (sym same) ∙ a in
    let g = sym read ∙ (d ∙ c) in cc

not_with : (ts front bad : List Token) (t : Token) (more : List Token) (least : ℕ) → ts ≡ front ++ bad
    → ((fuel : ℕ) → least ≤ fuel → read_task fuel ts ≡ fault bad) → bad ≡ t ∷ more → Begins (front ++ t ∷ []) → ⊥
not_with ts front bad t more least split at is begins =
    let task : IsTask (front ++ t ∷ begins.back) begins.body = rw append_assoc at begins.whole in
    let r = task_read (front ++ t ∷ begins.back) begins.body task in
    let fuel = least + r.least in
    let l = task-local fuel ts in
    let fails : read_task fuel ts ≡ fault bad = at fuel (omega arith) in
    let same : l.used ≡ front = append_cancel_right l.used front bad (ap (λ x. l.used ++ left_of x) (sym fails) ∙ (sym l.split ∙ split)) in
    never (read_task fuel) ts bad front (read_task fuel ts) t more refl fails is l same begins.back begins.body (r.from fuel (omega arith))

not_whole : (ts bad : List Token) (least : ℕ) → ((fuel : ℕ) → least ≤ fuel → read_task fuel ts ≡ fault bad) → (b : Block) → IsTask ts b → ⊥
not_whole ts bad least at b d =
    let r = task_read ts b d in
    let fuel = least + r.least in
    let o : Outcome Block = fault bad in
    let e : o ≡ found b [] = sym (at fuel (omega arith)) ∙ r.from fuel (omega arith) in
    cc

-- where reading offends, from some number of calls on, there is the first place that offends
pub offends : (ts bad : List Token) (least : ℕ) → ((fuel : ℕ) → least ≤ fuel → read_task fuel ts ≡ fault bad) → Offends ts bad
offends ts bad least at =
    let f = front-by least ts bad (failed Block Block (read_block least ts) whole bad (at least (omega arith))) in
    record {
      front = f.front;
      split = f.split;
      begins = f.begins;
      not_with = λ t more is b. not_with ts f.front bad t more least f.split at is b;
      not_whole = λ is b d. not_whole ts bad least at b d;
    }

-- where reading offends, from some number of calls on, the place is how many tokens stand before
pub offends-at : (ts bad : List Token) → Settles Block read_task ts (fault bad)
    → (length bad ≤ length ts) × OffendsAt ts (length ts - length bad)
offends-at ts bad r =
    let o = offends ts bad r.least r.from in
    let long : length ts ≡ length o.front + length bad = ap length o.split ∙ length-append o.front bad in
    let at : length ts - length bad ≡ length o.front = omega arith in
    let left : bad ≡ drop (length ts - length bad) ts = sym (ap (λ k. drop k ts) at ∙ (ap (drop (length o.front)) o.split ∙ drop-append_seam o.front bad)) in
    (omega arith, record { within = omega arith; offends = subst (Offends ts) left o })

-- what is read whole is a task
pub task-read : (ts rest : List Token) (b : Block) → Settles Block read_task ts (found b rest) → IsTask ts b
task-read ts rest b r = task-sound r.least ts rest b (r.from r.least (omega arith))
