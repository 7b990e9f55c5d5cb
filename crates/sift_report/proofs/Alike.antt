-- What is alike on a list makes the same of it.
use Rattle.std.proofs.Common.{◌≡◌, ℕ, zero, suc, ◌<◌, List, Option, None, Some, refl, sym, ap, ◌∙◌, arith}
use Rattle.sift_program.specs.Ideal.{words_before}
use Rattle.sift_program.specs.Program.{ProgramTree}

-- agreed words and shed tasks that are the same in each frame before make the same words
pub words_alike : (p : ProgramTree) (a b s t : ℕ → List ℕ) (f : ℕ) → ((g : ℕ) → g < f → a g ≡ b g) → ((g : ℕ) → g < f → s g ≡ t g)
    → words_before p a s f ≡ words_before p b t f
words_alike p a b s t zero agreed shed = refl
words_alike p a b s t (suc f) agreed shed =
    let rest = words_alike p a b s t f (λ g low. agreed g (omega arith)) (λ g low. shed g (omega arith)) in
    rw (rest, agreed f (omega arith), shed f (omega arith)) refl

-- what is told is one thing
abbrev told_else : List ℕ → Option (List ℕ) → List ℕ
told_else us None = us
told_else us (Some vs) = vs

-- an option has at most one list for its value
pub one_told : (us vs : List ℕ) (o : Option (List ℕ)) → o ≡ Some us → o ≡ Some vs → us ≡ vs
one_told us vs o a b = ap (told_else us) (sym a ∙ b)
