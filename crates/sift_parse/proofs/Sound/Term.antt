-- An expression that is read where no refusal stands names what is there, and needs no more than its levels leave.
use Rattle.std.proofs.Common.{◌≡◌, ℕ, suc, ◌+◌, ◌*◌, ◌≤◌, true, Some, List, ◌∷◌, length, sum, refl, sym, ap, ◌∙◌, subst, arith}
use Rattle.sift_lang.specs.declared.tree.Op.TheVariants.{Sub}
use Rattle.sift_lang.specs.Tree.{Term, binary, middle}
use Rattle.sift_lang.specs.Sound.{need, NamesWithin, NowsBelow}
use Rattle.sift_parse.specs.declared.token.Keyword.TheVariants.{Mid, Now, Last}
use Rattle.sift_parse.specs.declared.token.Sign.TheVariants.{OpenParen, CloseParen, Comma}
use Rattle.sift_parse.specs.declared.token.Token.{Token}
use Rattle.sift_parse.specs.declared.token.Token.TheVariants.{Sign}
use Rattle.sift_parse.specs.Force.{Force, without_minuses}
use Rattle.sift_parse.specs.Lexeme.{mark, operator}
use Rattle.sift_parse.specs.Roll.{first_word, Roll}
use Rattle.sift_parse.specs.Levels.{ends_operand}
use Rattle.sift_parse.specs.Grammar.{IsPrim, a_number, a_minus, in_parens, a_local, a_middle, a_sensor, of_this_frame, of_last_frame, IsLevel, a_prim, a_chain, IsTail, no_more, compared, more}
use Rattle.sift_parse.proofs.Sound.Place.{Place, sign-at, operator-at, keyword-at}
use Rattle.sift_parse.proofs.Sound.Force.{Starts, word_force, minus_force, joined_force, keyword-place, minus-opens, minus-place, joined-place, deeper, bare-twice, bare-short}
use Rattle.sift_parse.proofs.Sound.Prim.{IsPast, carried, local-past, sensor-past, word-past}
use Rattle.sift_parse.proofs.Sound.TermRules.{number-past, this_frame-past, last_frame-past, minus-past, paren_force, paren-starts, closed-past, comma_force, comma-starts, joined-starts, after-comma, middle-past, few-after, binary-past}

-- ---- all rules

mutual
  prim-past : (r : Roll) (f : Force) (ts rest : List Token) (t : Term) → IsPrim ts t rest → length f.levels ≤ 32 → Starts f → Place r f ts
      → IsPast r f rest t (7 * length f.levels + 5)
  prim-past r f ts rest t (a_number n us) few s p = number-past r f n us few p
  prim-past r f ts rest t (a_local l us) few s p = local-past r f l us few s p
  prim-past r f ts rest t (a_sensor x us) few s p = sensor-past r f x us few p
  prim-past r f ts rest t (of_this_frame task w us) few s p = this_frame-past r f w us few (word-past r f Now task w us refl p)
  prim-past r f ts rest t (of_last_frame task w us) few s p = last_frame-past r f w us few (word-past r f Last task w us refl p)
  prim-past r f ts rest t (a_minus us vs x d) few s p =
      let h = operator-at r f Sub us p in
      let deep = deeper r f (operator Sub) h.fits (minus-opens f s) in
      let i = prim-past r (minus_force f) us vs x d (omega arith) (record { before = refl; role = refl }) (minus-place r f us s h) in
      minus-past r f vs x (carried r (minus_force f) (minus_force f) vs x (7 * suc (length f.levels) + 5)
      (7 * (length f.levels + 1) + 5) i refl refl refl (omega arith))
  prim-past r f ts rest t (in_parens us vs x d) few s p =
      let h = sign-at r f OpenParen us p in
      let deep = deeper r f (mark OpenParen) h.fits refl in
      let i = level-past r (paren_force f) 0 us (Sign CloseParen ∷ vs) x d (omega arith) (paren-starts f) h.place in
      carried r f f vs x (7 * suc (length f.levels) + 0) (7 * length f.levels + 5)
      (closed-past r f vs x (7 * suc (length f.levels) + 0) i) refl refl refl (omega arith)
  prim-past r f ts rest t (a_middle us vs ws rs x y z a b c) few s p =
      let k = keyword-at r f Mid (Sign OpenParen ∷ us) p in
      let g : Force = word_force (Some Mid) k.text f in
      let h = sign-at r g OpenParen us (keyword-place r f Mid (Sign OpenParen ∷ us) k) in
      let deep = deeper r g (mark OpenParen) h.fits refl in
      let i0 = level-past r (paren_force g) 0 us (Sign Comma ∷ vs) x a (omega arith) (paren-starts g) h.place in
      let i =
      carried r (paren_force g) (paren_force g) (Sign Comma ∷ vs) x (7 * suc (length g.levels) + 0)
      (7 * (length g.levels + 1)) i0 refl refl refl (omega arith) in
      let m = sign-at r i.force Comma vs i.place in
      let j0 =
      level-past r (comma_force i.force) 0 vs (Sign Comma ∷ ws) y b
      (few-after r (paren_force g) (Sign Comma ∷ vs) x (7 * (length g.levels + 1)) i (omega arith)) (comma-starts i.force) m.place in
      let j = after-comma r g (Sign Comma ∷ vs) (Sign Comma ∷ ws) x y i j0 in
      let n = sign-at r j.force Comma ws j.place in
      let k0 =
      level-past r (comma_force j.force) 0 ws (Sign CloseParen ∷ rs) z c
      (few-after r (paren_force g) (Sign Comma ∷ ws) y (7 * (length g.levels + 1)) j (omega arith)) (comma-starts j.force) n.place in
      let l = closed-past r g rs z (7 * (length g.levels + 1)) (after-comma r g (Sign Comma ∷ ws) (Sign CloseParen ∷ rs) y z j k0) in
      carried r f g rs (middle x y z) (7 * length g.levels + 5) (7 * length f.levels + 5)
      (middle-past r g (Sign Comma ∷ vs) (Sign Comma ∷ ws) rs x y z i j l) refl refl refl (omega arith)

  -- an expression of level n is past where one may start and 32 levels are open at most: it names what is there
  pub level-past : (r : Roll) (f : Force) (n : ℕ) (ts rest : List Token) (t : Term) → IsLevel n ts t rest → length f.levels ≤ 32 → Starts f
      → Place r f ts → IsPast r f rest t (7 * length (without_minuses f.levels) + n)
  level-past r f n ts rest t (a_prim us vs x d) few s p =
      carried r f f vs x (7 * length f.levels + 5) (7 * length (without_minuses f.levels) + 5)
      (prim-past r f us vs x d few s p) refl refl refl (omega (arith, bare-short f.levels))
  level-past r f n ts rest t (a_chain m us mid vs x y lt d q) few s p =
      let i = level-past r f (suc m) us mid x d few s p in
      let bare : without_minuses i.force.levels ≡ i.force.levels = ap without_minuses i.levels ∙ (bare-twice f.levels ∙ (sym i.levels)) in
      let same : length i.force.levels ≡ length (without_minuses f.levels) = ap length i.levels in
      let names = subst (λ l. NamesWithin (length r.sensors) (sum r.sizes) (length l) x) (sym i.locals) i.names in
      let j =
      tail-past r i.force m x mid vs y q i.ended bare
      (few-after r f mid x (7 * length (without_minuses f.levels) + suc m) i few) names i.nows
      (let a = i.needs in omega arith) i.place in
      carried r f i.force vs y (7 * length i.force.levels + m) (7 * length (without_minuses f.levels) + m) j (bare ∙ i.levels) i.locals i.pending (omega arith)

  tail-past : (r : Roll) (f : Force) (n : ℕ) (x : Term) (ts rest : List Token) (t : Term) → IsTail n x ts t rest
      → ends_operand f.before ≡ true → without_minuses f.levels ≡ f.levels → length f.levels ≤ 32
      → NamesWithin (length r.sensors) (sum r.sizes) (length f.locals) x → NowsBelow (first_word r r.this) x
      → need x + (7 * length f.levels + n) ≤ 230 → Place r f ts → IsPast r f rest t (7 * length f.levels + n)
  tail-past r f n x ts rest t (no_more m y vs) e bare few names nows needs p =
      record {
        force = f;
        place = p;
        levels = sym bare;
        locals = refl;
        pending = refl;
        ended = e;
        names = names;
        nows = nows;
        needs = needs;
      }
  tail-past r f n x ts rest t (compared op y z us vs at d) e bare few names nows needs p =
      let h = operator-at r f op us p in
      let i = level-past r (joined_force op f) 1 us vs z d few (joined-starts op f) (joined-place r f op us e h) in
      binary-past r f 0 op y z vs bare names nows needs i
  tail-past r f n x ts rest t (more m op y z w us mid vs lt at d q) e bare few names nows needs p =
      let h = operator-at r f op us p in
      let i0 = level-past r (joined_force op f) (suc m) us mid z d few (joined-starts op f) (joined-place r f op us e h) in
      let i = binary-past r f m op y z mid bare names nows needs i0 in
      let again : without_minuses i.force.levels ≡ i.force.levels = ap without_minuses i.levels ∙ (bare-twice f.levels ∙ (sym i.levels)) in
      let same : length i.force.levels ≡ length f.levels = ap length (i.levels ∙ bare) in
      let there = subst (λ l. NamesWithin (length r.sensors) (sum r.sizes) (length l) (binary op y z)) (sym i.locals) i.names in
      let j = tail-past r i.force m (binary op y z) mid vs w q i.ended again (omega arith) there i.nows (let a = i.needs in omega arith) i.place in
      carried r f i.force vs w (7 * length i.force.levels + m) (7 * length f.levels + m) j (again ∙ i.levels) i.locals i.pending (omega arith)
