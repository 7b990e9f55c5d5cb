use Rattle.std.proofs.Common.{◌≡◌, ◌<◌, length, ap, ◌∙◌, subst}
use Rattle.std.specs.Prelude.{IfNone, IfSome}
use Rattle.sift_base.specs.Units.{members}
use Rattle.sift_config.specs.Config.{remaining}
use Rattle.sift_line.specs.Part.{units_text}
use Rattle.sift_line.proofs.Remaining.{config_members, config_units, remains, remains_printed, rest_is, set_of_config}
use Rattle.sift_line.proofs.Results.{held}
use Rattle.sift_line.proofs.number.read_config.Goals as goal

-- the units that remain are those that were read
left : (c : goal.After-without) → remaining c.all.result c.minus.result ≡ members c.in_ok-units.units
left c = rw (c.all.ensures, c.minus.ensures, c.of_bits.ensures) (rest_is c.in_ok-units.units)

pub returns-in_err-units-clause-exact : goal.returns-in_err-units-clause-exact
returns-in_err-units-clause-exact c = λ us config e.
    let printed = ap units_text (config_members us config) ∙ e in
    let none = c.in_err-units.ensures.exact (set_of_config us) (config_units us config) printed in (cc)

pub returns-clause-printed : goal.returns-clause-printed
returns-clause-printed c =
    remains_printed c.without.result (remaining c.all.result c.minus.result) c.args.text.now c.without.ensures.found
    (ap units_text (left c) ∙ c.in_ok-units.ensures.printed)

pub returns-clause-exact : goal.returns-clause-exact
returns-clause-exact c = λ us config e.
    let printed = ap units_text (config_members us config) ∙ e in
    let read = held c.in_ok-units.units (set_of_config us) (c.in_ok-units.ensures.exact (set_of_config us) (config_units us config) printed) in
    let same : remaining c.all.result c.minus.result ≡ us = left c ∙ ap members read ∙ config_members us config in
    remains c.without.result us (subst (λ vs. IfSome c.without.result (λ cfg. cfg ≡ vs)) same c.without.ensures.found)
    (subst (λ vs. IfNone c.without.result (length vs < 4)) same c.without.ensures.none) config.enough
