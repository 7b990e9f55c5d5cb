-- What a mission's list of the words' tasks says.
use Rattle.std.proofs.Common.{◌≡◌, ℕ, ◌<◌, List, length, slice_index, true, ap, ◌∙◌, subst, arith, zero-add, ltb-true}
use Rattle.sift_base.specs.Layout.{slot_count, slot_kind}
use Rattle.sift_base.specs.declared.slots.Slot.TheVariants.{Out}
use Rattle.sift_mission.specs.ByWord.{IsHeld, by_word}
use Rattle.sift_mission.specs.Data.{MissionData}
use Rattle.sift_mission.specs.Parts.{data_of, flown_of}
use Rattle.sift_mission.specs.Flown.{flown}
use Rattle.sift_mission.specs.PartsFit.{PartsFit}
use Rattle.sift_mission.specs.Slots.{is_slot}
use Rattle.sift_mission.specs.declared.mission.MissionParts.{MissionParts}
use Rattle.sift_mission.specs.declared.crews.Crews.{Crews}
use Rattle.sift_mission.specs.declared.timetable.Timetable.{Timetable}
use Rattle.sift_mission.specs.laws.ByWords.{at-by_word, length-by_word}
use Rattle.sift_mission.proofs.FitSlots.{numbered}
use Rattle.sift_mission.proofs.FitTasks.{task-there}

-- what is held of the fields is held of the value that they are seen as
pub held-as : (parts value : MissionParts) (slots : ℕ) (tasks : List ℕ) (times : List Timetable) (crews : List Crews) → IsHeld parts slots tasks times crews →
    parts ≡ value → IsHeld value slots tasks times crews
held-as parts value slots tasks times crews held same = subst (λ p. IsHeld p slots tasks times crews) same held

module _ (parts : MissionParts) (tasks : List ℕ) (fit : PartsFit (data_of parts)) (are : tasks ≡ by_word 0 (data_of parts).program.tasks)
    (w : ℕ) (low : w < (flown_of parts).words) where
  -- the list has the word's place
  pub held-place : w < length tasks
  held-place =
      let words = fit.layout.words in
      omega (arith, ap length are, length-by_word 0 (data_of parts).program.tasks)

  -- where the word's task stands
  pub held-task : slice_index tasks w ≡ (flown_of parts).task w
  held-task =
      let d = data_of parts in
      let words = fit.layout.words in
      ap (λ list. slice_index list w) are
      ∙ (at-by_word d.program.tasks 0 d.program.tasks w (omega arith) ∙ zero-add ((flown_of parts).task w))

  -- and which is there
  pub held-there : slice_index tasks w < (flown_of parts).tasks
  held-there = let below = task-there (data_of parts) fit w low in omega (arith, held-task)

-- a slot of a word is one of the mission's words
pub out_low : (d : MissionData) (fit : PartsFit d) (i w : ℕ) → i < slot_count d.layout → slot_kind d.layout i ≡ Out w → w < d.layout.words
out_low d fit i w low is = ltb-true w d.layout.words (subst (λ k. is_slot (flown d) k ≡ true) is ((numbered d fit).slot i low))
