-- Storms that are drawn are the draws.
use Rattle.std.proofs.Common.{◌≡◌, ℕ, zero, suc, ◌+◌, ◌*◌, List, [], ◌∷◌, length, refl, sym, ap, ◌∙◌, arith, Option, option_to_list}
use Rattle.std.specs.List.{flat_map}
use Rattle.sift_base.specs.Draw.{after}
use Rattle.sift_base.specs.laws.Draws.{after-after}
use Rattle.sift_buffer.specs.Conduct.{Stray}
use Rattle.sift_rogue.specs.declared.rogue.Act.{Act}
use Rattle.sift_rogue.specs.declared.storm.Storm.{Storm}
use Rattle.sift_rogue.specs.Rogues.{AllowsDrawn, drawn_act}
use Rattle.sift_rogue.specs.Storms.{Calls, Storms, Answers}
use Rattle.sift_rogue.specs.DrawnStorms.{DrawnStormsAreTheDraws, drawn_acts}

-- five draws after those of some acts are those of one act more
five_more : (x count : ℕ) → after (after x (5 * count)) 5 ≡ after x (5 * suc count)
five_more x count =
    let more : 5 * count + 5 ≡ 5 * suc count = omega arith in
    after-after x (5 * count) 5 ∙ ap (after x) more

-- what was answered is what is drawn, and the drawer stands behind it
answers_drawn : (x : Storm) (acts : List Act) (y : Storm) → Answers AllowsDrawn x acts y →
    (acts ≡ drawn_acts x.drawer (length acts)) × (y.drawer ≡ after x.drawer (5 * length acts))
unfolding after
answers_drawn x [] y is = (refl, ap (λ (s : Storm). s.drawer) is)
answers_drawn x (a ∷ acts) z w =
    let rest = answers_drawn x acts w.0 w.1 in
    ((λ i. (w.2.0 ∙ ap drawn_act rest.1) i ∷ rest.0 i), w.2.1 ∙ (ap (λ (n : ℕ). after n 5) rest.1 ∙ five_more x.drawer (length acts)))

-- so is a storm that is drawn
storm_drawn : (sift : Act → Option Stray) (calls : Calls) (x y : Storm) → Storms AllowsDrawn sift calls x y →
    (calls.strays ≡ flat_map (λ act. option_to_list (sift act)) (drawn_acts calls.number calls.count)) × (y.drawer ≡ after calls.number (5 * calls.count))
storm_drawn sift calls x y storm =
    let drawn = answers_drawn storm.begun storm.acts y storm.answers in (
      storm.strays_are ∙ ap (flat_map (λ act. option_to_list (sift act))) (drawn.0 ∙ (λ i. drawn_acts (storm.start i) (storm.count_is i))),
      drawn.1 ∙ (λ i. after (storm.start i) (5 * storm.count_is i)),
    )

-- what is drawn is answered
drawn_answers : (number count : ℕ)
    → Answers AllowsDrawn (record { drawer = number }) (drawn_acts number count) (record { drawer = after number (5 * count) })
unfolding after
drawn_answers number zero = refl
drawn_answers number (suc count) = (record { drawer = after number (5 * count) }, drawn_answers number count, (refl, sym (five_more number count)))

-- as many acts as were asked for
drawn_count : (number count : ℕ) → length (drawn_acts number count) ≡ count
drawn_count number zero = refl
drawn_count number (suc count) = ap suc (drawn_count number count)

-- a storm that is drawn has the strays of its draws and no others, there is one for each number and each count of calls, and it may have a stray
pub are_the_draws : DrawnStormsAreTheDraws
unfolding after
are_the_draws = record {
  strays = storm_drawn;
  some = λ sift number x count. record {
    begun = record { drawer = number };
    start = refl;
    acts = drawn_acts number count;
    count_is = drawn_count number count;
    answers = drawn_answers number count;
    strays_are = refl;
  };
  stray = refl;
}
