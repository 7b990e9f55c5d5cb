-- Sound code is refused for want of memory alone.
use Rattle.std.proofs.Common.{◌≡◌, refl}
use Rattle.std.specs.Prelude.{◌≢◌}
use Rattle.sift_code.specs.declared.refusal.Bad.{Bad}
use Rattle.sift_code.specs.declared.refusal.Bad.TheVariants.{BadJump, Underflow, Unequal, TooDeep, BadOperand, NoMemory}
use Rattle.sift_code.specs.Refusal.{Program, IsSound, IsFirst}

-- a refusal of sound code is want of memory, where it would else name the first place that offends
pub never_refused : (program : Program) → IsSound program → (bad : Bad) → (bad ≢ NoMemory → IsFirst program bad) → bad ≡ NoMemory
never_refused program sound NoMemory first = refl
never_refused program sound (BadJump p) first =
    let f = first (λ e. cc) in absurd ((sound p f.inside).jumps f.offends)
never_refused program sound (Unequal p) first =
    let f = first (λ e. cc) in absurd ((sound p f.inside).equal f.offends.1)
never_refused program sound (Underflow p) first =
    let f = first (λ e. cc) in absurd ((sound p f.inside).filled f.offends.2)
never_refused program sound (TooDeep p) first =
    let f = first (λ e. cc) in absurd ((sound p f.inside).shallow f.offends.3)
never_refused program sound (BadOperand p) first =
    let f = first (λ e. cc) in absurd ((sound p f.inside).named f.offends.4)
