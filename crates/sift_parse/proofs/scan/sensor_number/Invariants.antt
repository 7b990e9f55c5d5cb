use Rattle.std.proofs.Common.{◌≡◌, drop, map}
use Rattle.std.specs.List.{position_from}
use Rattle.std.specs.Str.{bytes_eq}
use Rattle.sift_parse.specs.Roll.{number_in}
use Rattle.sift_parse.proofs.scan.sensor_number.Given as goal

-- the name is none of those so far
abbrev pub invariant-loop-i : goal.invariant-loop-i
invariant-loop-i l =
    number_in (map (λ s. s.bytes) l.names.sensors.items) l.name ≡ position_from (λ w. bytes_eq w l.name) l.i
    (map (λ s. s.bytes) (drop l.i l.names.sensors.items))
