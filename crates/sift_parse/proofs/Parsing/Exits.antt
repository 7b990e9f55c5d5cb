-- What a function of the parser answers where its `?` returns.
use Rattle.std.proofs.Common.{◌≡◌, ℕ, List, sym, ap, ◌∙◌, subst, Result, Err}
use Rattle.std.specs.Result.{IsErr, IsErrAnd}
use Rattle.std.proofs.lemmas.Result.{err_from_is_err_and}
use Rattle.sift_parse.specs.declared.token.ReadStop.{ReadStop}
use Rattle.sift_parse.specs.declared.token.ReadStop.TheVariants.{Syntax, NoMemory}
use Rattle.sift_parse.specs.declared.token.Token.{Token}
use Rattle.sift_parse.specs.Reading.{Outcome, fault}
use Rattle.sift_parse.specs.Parsing.{Settles, Answers, Reading}

-- a `?` returns this error
abbrev pub HandsOn : {T : Type 0} → Result T ReadStop → ReadStop → Type 0
HandsOn r e = IsErr r × IsErrAnd r (λ d. d ≡ e)

returned : {T : Type 0} (r : Result T ReadStop) (e : ReadStop) → HandsOn r e → r ≡ Err e
returned r e h = (let y = err_from_is_err_and {Q = λ d. d ≡ e} r h.1 in y.1 ∙ ap Err y.2)

-- memory was wanting
pub out-of-memory : (B U : Type 0) (other : U → B) (S : ℕ → List Token → Outcome B) (us left : List Token) (r : Result U ReadStop)
    → HandsOn r NoMemory → Reading {A = B} {T = U} other S us r left
out-of-memory B U other S us left r h =
    subst (λ r. Reading {A = B} {T = U} other S us r left) (sym (returned r NoMemory h)) tt

failed : (A B T U : Type 0) (view : T → A) (other : U → B) (R : ℕ → List Token → Outcome A) (S : ℕ → List Token → Outcome B)
    (ts us left : List Token) (e : ReadStop)
    → ((bad : List Token) → Settles A R ts (fault bad) → Settles B S us (fault bad)) → Reading {A = A} {T = T} view R ts (Err e) left
    → Reading {A = B} {T = U} other S us (Err e) left
failed A B T U view other R S ts us left Syntax f h = f left h
failed A B T U view other R S ts us left NoMemory f h = tt

-- what offends for one reader offends for another, which hands it on
pub part-failed : (A B T U : Type 0) (view : T → A) (other : U → B) (R : ℕ → List Token → Outcome A) (S : ℕ → List Token → Outcome B)
    (ts us left : List Token) (e : ReadStop) (r : Result U ReadStop) → HandsOn r e
    → ((bad : List Token) → Settles A R ts (fault bad) → Settles B S us (fault bad)) → Reading {A = A} {T = T} view R ts (Err e) left
    → Reading {A = B} {T = U} other S us r left
part-failed A B T U view other R S ts us left e r handed f h =
    subst (λ r. Reading {A = B} {T = U} other S us r left) (sym (returned r e handed))
    (failed A B T U view other R S ts us left e f h)

missing : (A B T U : Type 0) (view : T → A) (other : U → B) (o : Outcome A) (S : ℕ → List Token → Outcome B) (us left : List Token) (e : ReadStop)
    → (o ≡ fault left → Settles B S us (fault left)) → Answers {A = A} {T = T} view o (Err e) left
    → Reading {A = B} {T = U} other S us (Err e) left
missing A B T U view other o S us left Syntax f h = f h
missing A B T U view other o S us left NoMemory f h = tt

-- the token that is no sign or name or number, where one is wanted, offends
pub token-failed : (A B T U : Type 0) (view : T → A) (other : U → B) (o : Outcome A) (S : ℕ → List Token → Outcome B) (us left : List Token)
    (e : ReadStop) (r : Result U ReadStop) → HandsOn r e → (o ≡ fault left → Settles B S us (fault left))
    → Answers {A = A} {T = T} view o (Err e) left → Reading {A = B} {T = U} other S us r left
token-failed A B T U view other o S us left e r handed f h =
    subst (λ r. Reading {A = B} {T = U} other S us r left) (sym (returned r e handed))
    (missing A B T U view other o S us left e f h)
