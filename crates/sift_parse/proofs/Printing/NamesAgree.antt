-- What is known after a name is what is in force after it.
use Rattle.std.proofs.Common.{◌≡◌, ℕ, ◌≤◌, List, length, Option, Some, None, is_none, unwrap_or, refl, sym, ap, ◌∙◌, subst, arith}
use Rattle.sift_parse.specs.declared.token.Keyword.{Keyword}
use Rattle.sift_parse.specs.declared.token.Keyword.TheVariants.{Now}
use Rattle.sift_parse.specs.declared.token.Token.{Token}
use Rattle.sift_parse.specs.declared.token.Token.TheVariants as token
use Rattle.sift_parse.specs.Force.{Force, advance, keyword_before, without_minuses, named_by, number_named, word_token, Role, new_local, a_sensor, a_task, old_local, role_after}
use Rattle.sift_parse.specs.Lexeme.{keyword_of, word}
use Rattle.sift_parse.specs.Pieces.{called}
use Rattle.sift_parse.specs.Refusal.{OfSome}
use Rattle.sift_parse.specs.Roll.{Roll, number_in}
use Rattle.sift_parse.specs.Tokens.{local_of, task_after}
use Rattle.sift_parse.proofs.Printing.Keywords.{no_keyword}
use Rattle.sift_parse.proofs.Printing.Known.{Known, key_before, after_role, known_after}
use Rattle.sift_parse.proofs.Printing.MayStand.{Means, IsEarlier, MayStand}
use Rattle.sift_parse.proofs.Refusals.Fine.{none_at_word}
use Rattle.sift_parse.proofs.Sound.Force.{word_force, name_force, named-role}
use Rattle.sift_parse.proofs.Printing.Agrees.{Agrees, Agreed, lets-agree}

-- what is known after a name is in force after it
name-agrees : (r : Roll) (f : Force) (h : Known) (w : List ℕ) (n : ℕ) (role : Role) → keyword_of w ≡ None → Means r h.locals role w n
    → Agrees r f h → Agrees r (name_force role w f) (after_role role w n h)
name-agrees r f h w n new_local e m a = record {
  key = e;
  ends = ap is_none e;
  asked = ap (task_after r) e;
  meant = λ task n. refl;
  levels = a.levels;
  locals = a.locals;
  pending = refl;
  named = λ task e. cc;
}
name-agrees r f h w n a_task e m a = record {
  key = e;
  ends = ap is_none e;
  asked = ap (task_after r) e;
  meant = λ task n. refl;
  levels = a.levels;
  locals = a.locals;
  pending = a.pending;
  named = λ task x. (let u : unwrap_or (number_in r.tasks w) 0 ≡ n = ap (λ o. unwrap_or o 0) m in cc);
}
name-agrees r f h w n a_sensor e m a = record {
  key = e;
  ends = ap is_none e;
  asked = ap (task_after r) e;
  meant = λ task n. refl;
  levels = ap without_minuses a.levels;
  locals = a.locals;
  pending = a.pending;
  named = λ task e. cc;
}
name-agrees r f h w n old_local e m a = record {
  key = e;
  ends = ap is_none e;
  asked = ap (task_after r) e;
  meant = λ task n. refl;
  levels = ap without_minuses a.levels;
  locals = a.locals;
  pending = a.pending;
  named = λ task e. cc;
}

-- what a name means by what is known it names by what is in force
means-named : (r : Roll) (f : Force) (locals : List (List ℕ)) (w : List ℕ) (n : ℕ) (role : Role) → f.locals ≡ locals
    → Means r locals role w n → named_by r f role w ≡ Some n
means-named r f locals w n new_local e m = ap (λ l. Some (length l)) e ∙ ap (λ n. Some n) (sym m)
means-named r f locals w n a_sensor e m = m
means-named r f locals w n a_task e m = m
means-named r f locals w n old_local e m = ap (λ l. local_of l w) e ∙ m

-- after `now` the task is before this one
not-later : (r : Roll) (locals : List (List ℕ)) (k : Option Keyword) (w : List ℕ) (n : ℕ) → Means r locals (role_after k) w n
    → IsEarlier r k n → k ≡ Some Now → ¬ OfSome (λ task. r.this ≤ task) (number_in r.tasks w)
not-later r locals k w n m earlier e h =
    let found : number_in r.tasks w ≡ Some n = subst (λ k. Means r locals (role_after k) w n) e m in
    let later : r.this ≤ n = subst (OfSome (λ task. r.this ≤ task)) found h in
    let lt = earlier e in omega arith

-- what is in force after a name, by its role
name-force : (r : Roll) (f : Force) (g : Known) (w : List ℕ) (role : Role) → keyword_of w ≡ None → role_after (keyword_before f) ≡ role
    → Agrees r (name_force role w f) g → Agrees r (advance f (word w)) g
name-force r f g w role e at a =
    subst (λ o. Agrees r (word_force o w f) g) (sym e) (subst (λ role. Agrees r (name_force role w f) g) (sym at) a)

-- a name is the token of what it means, and nothing is refused of it
pub name-agreed : (r : Roll) (f : Force) (h : Known) (w : List ℕ) (n : ℕ) → Agrees r f h → MayStand r h (called w n) → Agreed r f h (called w n)
name-agreed r f h w n a may =
    let e = no_keyword w may.0.free in
    let role = role_after (key_before h.before) in
    let same : role_after (keyword_before f) ≡ role = ap role_after a.key in
    let named : number_named r f w ≡ Some n = named-role r f (keyword_before f) w ∙ ap (λ role. named_by r f role w) same ∙ means-named r f h.locals w n role a.locals may.1 in
    record {
      token = ap (word_token r f w) e ∙ ap (λ o. (let t : Token = token.Name (unwrap_or o 0) in t)) named;
      none =
          none_at_word r f w may.0.short (lets-agree r f h a may.2) (λ k x. (let y = sym named ∙ x in cc))
          (λ k now. not-later r h.locals (key_before h.before) w n may.1 may.3 (sym a.key ∙ now));
      after = name-force r f (known_after h (called w n)) w role e same (name-agrees r f h w n role e may.1 a);
    }
