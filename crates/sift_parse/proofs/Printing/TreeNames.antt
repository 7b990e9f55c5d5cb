-- What the statements of a sound tree name has its name.
use Rattle.std.proofs.Common.{◌≡◌, ℕ, suc, ◌+◌, ◌≤◌, ◌∷◌, length, sum, slice_index, sym, ap, subst, arith}
use Rattle.sift_base.specs.Name.{IsName}
use Rattle.sift_lang.specs.Sound.{Bounds, NowsBelow, IsSoundStatement, IsSoundBlock, EachTermOf, EachTerm}
use Rattle.sift_lang.specs.Tree.{Statement, bind, assign, output, choose, choose_else, repeat, Block, end, step}
use Rattle.sift_parse.specs.Printable.{most_locals_of, most_locals_in, HasSmallNumbers}
use Rattle.sift_parse.specs.Printing.{Naming}
use Rattle.sift_parse.specs.Roll.{Roll, first_word}
use Rattle.sift_parse.proofs.Printing.Named.{IsNamedStatement, IsNamedBlock}
use Rattle.sift_parse.proofs.Printing.Names.{Named, local_names, local_names-many, local-found, term-named}

-- what there is in all
abbrev pub bounds : Roll → Bounds
bounds r = record { sensors = length r.sensors; words = sum r.sizes; outputs = slice_index r.sizes r.this }

-- one more, said in two ways
one-more : (k : ℕ) → k + 1 ≡ suc k
one-more k = omega arith

-- the names with that of one more local
names-more : (N : Naming) (k : ℕ) → N.local_name (length (local_names N k)) ∷ local_names N k ≡ local_names N (suc k)
names-more N k = ap (λ n. N.local_name n ∷ local_names N k) (local_names-many N k)

mutual
  statement-named : (r : Roll) (N : Naming) (many k : ℕ) (s : Statement) → Named r N many → k ≤ many → most_locals_of k s ≤ many
      → IsSoundStatement (bounds r) k s → EachTermOf (NowsBelow (first_word r r.this)) s → EachTermOf HasSmallNumbers s
      → IsNamedStatement r N (local_names N k) s
  statement-named r N many k (bind t) is few most h m s =
      let n = local_names-many N k in
      let lt = h.1 in
      let name = subst (λ n. IsName (N.local_name n)) (sym n) (is.naming.local_names k (omega arith)) in
      (term-named r N many k t is few h.0.names m s, name, omega arith)
  statement-named r N many k (assign l t) is few most h m s =
      let lt = h.1 in
      let seen = local-found r N many is.naming k l few lt in
      (term-named r N many k t is few h.0.names m s, record { is_name = is.naming.local_names l (omega arith); found = seen })
  statement-named r N many k (output j t) is few most h m s =
      let lt = h.1 in
      let size = is.size.few in
      (term-named r N many k t is few h.0.names m s, omega arith, lt)
  statement-named r N many k (choose t b) is few most h m s =
      (term-named r N many k t is few h.0.names m.0 s.0, block-named r N many k b is few (omega arith) h.1 m.1 s.1)
  statement-named r N many k (choose_else t b c) is few most h m s = (
    term-named r N many k t is few h.0.names m.0 s.0,
    block-named r N many k b is few (omega arith) h.1 m.1 s.1,
    block-named r N many k c is few (omega arith) h.2 m.2 s.2,
  )
  statement-named r N many k (repeat n b) is few most h m s = (h.0, block-named r N many k b is few (omega arith) h.1 m s)

  -- all that a sound block names has its name, with small numbers, `now`s of earlier tasks and few enough locals
  pub block-named : (r : Roll) (N : Naming) (many k : ℕ) (b : Block) → Named r N many → k ≤ many → most_locals_in k b ≤ many
      → IsSoundBlock (bounds r) k b → EachTerm (NowsBelow (first_word r r.this)) b → EachTerm HasSmallNumbers b → IsNamedBlock r N (local_names N k) b
  block-named r N many k end is few most h m s = tt
  block-named r N many k (step (bind t) b) is few most h m s =
      let lt = h.0.1 in
      let sound = subst (λ n. IsSoundBlock (bounds r) n b) (one-more k) h.1 in
      let rest = subst (λ n. most_locals_in n b ≤ many) (one-more k) (omega arith) in
      let more = block-named r N many (suc k) b is (omega arith) rest sound m.1 s.1 in
      (statement-named r N many k (bind t) is few (omega arith) h.0 m.0 s.0, subst (λ l. IsNamedBlock r N l b) (sym (names-more N k)) more)
  block-named r N many k (step (assign l t) b) is few most h m s =
      (statement-named r N many k (assign l t) is few (omega arith) h.0 m.0 s.0, block-named r N many k b is few (omega arith) h.1 m.1 s.1)
  block-named r N many k (step (output j t) b) is few most h m s =
      (statement-named r N many k (output j t) is few (omega arith) h.0 m.0 s.0, block-named r N many k b is few (omega arith) h.1 m.1 s.1)
  block-named r N many k (step (choose t c) b) is few most h m s =
      (statement-named r N many k (choose t c) is few (omega arith) h.0 m.0 s.0, block-named r N many k b is few (omega arith) h.1 m.1 s.1)
  block-named r N many k (step (choose_else t c d) b) is few most h m s =
      (statement-named r N many k (choose_else t c d) is few (omega arith) h.0 m.0 s.0, block-named r N many k b is few (omega arith) h.1 m.1 s.1)
  block-named r N many k (step (repeat n c) b) is few most h m s =
      (statement-named r N many k (repeat n c) is few (omega arith) h.0 m.0 s.0, block-named r N many k b is few (omega arith) h.1 m.1 s.1)
