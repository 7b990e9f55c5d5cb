use Rattle.std.proofs.Common.{refl}
use Rattle.sift_byz.proofs.Testing.{not_both}
use Rattle.sift_byz.proofs.lies.has_path.Goals as goal

-- it has none
pub returns-in-None : goal.returns-in-None
returns-in-None c = (λ yes. absurd (not_both yes refl), λ has. absurd (c.in-None.ensures.none has))

-- it has one
pub returns-in-Some : goal.returns-in-Some
returns-in-Some c = (λ _. (c.in-Some.field-0.items, c.in-Some.ensures.found, c.in-Some.ensures.path), λ _. refl)
