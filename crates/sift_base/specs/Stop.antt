-- Why a call has no value.
use Rattle.std.specs.Prelude.{⊤}
use Rattle.sift_base.specs.declared.stop.Stop.{Stop}
use Rattle.sift_base.specs.declared.stop.Stop.TheVariants.{Refused, NoMemory}

-- where something is refused this holds of the reason; want of memory says nothing
abbrev pub IfRefused : {E : Type 0} → (E → Type 0) → Stop E → Type 0
IfRefused Is (Refused reason) = Is reason
IfRefused Is NoMemory = ⊤
