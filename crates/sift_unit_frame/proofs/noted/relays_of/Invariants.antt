use Rattle.std.proofs.Common.{◌≡◌, ◌&&◌, map, not, nat_eq, take}
use Rattle.std.specs.List.{filter}
use Rattle.sift_unit_frame.specs.Memory.{place_at}
use Rattle.sift_unit_frame.proofs.noted.relays_of.Given as goal

-- the words of those among the units so far
abbrev pub invariant-loop-position : goal.invariant-loop-position
invariant-loop-position l =
    l.relays.items ≡ map (place_at l.fn.places) (filter (λ v. not (nat_eq v l.fn.of) && not (nat_eq v l.fn.own)) (take l.position l.fn.config))
