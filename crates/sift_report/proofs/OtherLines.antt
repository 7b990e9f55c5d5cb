-- Each item of the headline refuses lines other than those of the report with a fault in it.
use Rattle.std.proofs.Common.{◌≡◌, ℕ, zero, suc, length, slice_index, true, false, not, Some, pos, refl, sym, ap, ◌∙◌, subst, arith}
use Rattle.std.specs.List.{filter}
use Rattle.std.proofs.lemmas.Int.{ints}
use Rattle.std.proofs.lemmas.Option.{none-some, same_Some}
use Rattle.sift_base.specs.Units.{HasMargin, has}
use Rattle.sift_skew.specs.laws.Leads.{skew_is_unique}
use Rattle.sift_line.specs.declared.line.ReportLine.TheVariants.{Frame, Last}
use Rattle.sift_report.specs.Told.{HasMarginTold, IsWorking, works_in}
use Rattle.sift_report.specs.TwoCatchers.{OtherLinesAreRefused, all_five, four_left, mission, one_catcher, other, unit_4_stays}
use Rattle.sift_report.proofs.TwoCatchers.{holds-none, holds-only, no_skew}
use Rattle.sift_report.proofs.Tells.{two_tell}

working : (u f : ℕ) → has all_five u ≡ true → works_in mission u f ≡ true → IsWorking mission u f
working u f there works = record { unit = there; works = works }

pub other_lines_are_refused : OtherLinesAreRefused
other_lines_are_refused = record {
  form = λ h. let e : 3 ≡ 2 = (h.units 2 (omega arith)).1 in omega (arith, e);
  end = λ h. let e : 14 ≡ 13 = h.nothing_more refl in omega (arith, e);
  same_configuration = λ h.
      let all : all_five ≡ h.config = same_Some _ _ h.told in
      let here : HasMargin (λ u. works_in mission u 0) all_five = record { few = omega arith; enough = omega arith } in
      let told = h.same (subst (HasMargin (λ u. works_in mission u 0)) all here) 2 (working 2 0 refl refl) in
      let e : 4 ≡ 5 = ap length (same_Some _ _ told ∙ sym all) in
      omega (arith, e);
  all_at_first = λ h. let e : 4 ≡ 5 = ap length (same_Some _ _ h.told ∙ h.all_at_first refl) in omega (arith, e);
  idle_lead = λ h. none-some h.config h.told;
  true_inputs = λ h. let e : 6 ≡ 7 = h.sensed all_five 0 refl (omega arith) refl in omega (arith, e);
  same_inputs = λ h. let e : 1 ≡ 0 = ap length (h.same 2 (working 2 0 refl refl)) in omega (arith, e);
  ideal_outputs = λ h. let e : 17 ≡ 16 = ap (λ ws. slice_index ws 0) (h 2 (working 2 0 refl refl)) in omega (arith, e);
  no_false_accusation = λ h. let e = sym (holds-only 1 1) ∙ h 2 1 (working 2 0 refl refl) (working 1 0 refl refl) in absurd cc;
  no_own_accusation = λ h. let e = sym (holds-only 2 2) ∙ h 2 2 (working 2 0 refl refl) (working 2 0 refl refl) in absurd cc;
  exact_removal = λ h. let e : 4 ≡ 5 = ap length (h all_five four_left refl refl ∙ one_names) in omega (arith, e);
  no_removal = λ h. let e : 5 ≡ 4 = ap length (h all_five all_five refl refl ∙ two_name) in omega (arith, e);
  clock_skew = λ h.
      let apart = (h.skew all_five refl).0.largest (pos 1) (pos 0) (2, omega arith, refl) (0, omega arith, refl) in
      omega (arith, ints, apart);
  told_skew = λ h. let e = skew_is_unique _ (pos 1) (pos 0) (h.skew all_five refl).0 no_skew in omega (arith, ints, e);
  far_clocks = λ h. let far = (h.skew all_five refl).1 in omega (arith, ints, far);
  slack = λ h. omega (arith, ints, h.slack);
  true_margin = λ h. let e = h.frame.1 sound_first in absurd cc;
  true_end = λ h. let e = (h.end refl).1 sound_still in absurd cc;
}
  where
    one_names : filter (λ v. not (two_tell mission one_catcher 0 all_five v)) all_five ≡ all_five
    one_names =
        rw (holds-only 4 0, holds-only 4 1, holds-only 4 2, holds-only 4 3, holds-only 4 4)
        (rw (holds-none 0, holds-none 1, holds-none 2, holds-none 3, holds-none 4) refl)

    two_name : filter (λ v. not (two_tell mission unit_4_stays 0 all_five v)) all_five ≡ four_left
    two_name =
        rw (holds-only 4 0, holds-only 4 1, holds-only 4 2, holds-only 4 3, holds-only 4 4)
        (rw (holds-none 0, holds-none 1, holds-none 2, holds-none 3, holds-none 4) refl)

    sound_first : HasMarginTold mission (other 5 (Frame 0 (Some (pos 0)) (Some (pos 1)) false)) 0
    sound_first zero up = (all_five, refl, record { few = omega arith; enough = omega arith })
    sound_first (suc g) up = absurd (omega arith)

    sound_still : HasMarginTold mission (other 12 (Last 2 four_left false)) 1
    sound_still zero up = (all_five, refl, record { few = omega arith; enough = omega arith })
    sound_still (suc zero) up = (four_left, refl, record { few = omega arith; enough = omega arith })
    sound_still (suc (suc g)) up = absurd (omega arith)
