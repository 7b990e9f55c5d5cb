-- What a unit polled of an output word, the majority of it, and the line of its vote.
use Rattle.std.proofs.Common.{codes, append_assoc, ◌≡◌, ℕ, ◌+◌, ◌<◌, ◌≤◌, List, [], ◌∷◌, ◌++◌, length, map, get_or, Option}
use Rattle.std.proofs.Common.{Some, None, refl, sym, ap, ◌∙◌, arith}
use Rattle.std.specs.Prelude.{IfNone, IfSome, slice_index_or}
use Rattle.std.specs.Fmt.{decimal}
use Rattle.std.specs.Vec.{vec_len}
use Rattle.std.specs.List.{join_with_byte}
use Rattle.arrayvec.specs.declared.array_string.ArrayString.{ArrayString}
use Rattle.std.proofs.lemmas.List.{get_or-map, length-map, map-append}
use Rattle.std.proofs.lemmas.List.Sums.{sum_by_more, sum_by_more_le}
use Rattle.std.proofs.lemmas.Simd.{map-map}
use Rattle.sift_base.specs.Layout.{word_limit}
use Rattle.sift_lang.specs.Tree.{TaskTree, tree_of}
use Rattle.sift_vote.specs.Majority.{majority_of, HasNoMajority, IsMajority}
use Rattle.sift_vote.specs.laws.Found.{majority_is_found}
use Rattle.sift_program.specs.Program.{first_word, output_count, task_at}
use Rattle.sift_mission.specs.Data.{MissionData, FlownMission}
use Rattle.sift_mission.specs.Parts.{data_of}
use Rattle.sift_mission.specs.Flown.{flown}
use Rattle.sift_mission.specs.PartsFit.{PartsFit}
use Rattle.sift_mission.specs.declared.mission.MissionParts.{MissionParts}
use Rattle.sift_line.specs.Part.{blank, list_text, text_or_dash, unit_digit, word_text}
use Rattle.sift_mission.specs.Slots.{executors}
use Rattle.sift_flight.specs.Flight.{Flight, config_of}
use Rattle.sift_report.specs.Poll.{poll_of, polled_text, polls_of}
use Rattle.sift_report.specs.Votes.{place_of, vote_text}
use Rattle.sift_report.specs.declared.poll.Poll.{Poll}

-- the name of a task or a sensor
abbrev Name : Type 0
Name = ArrayString 16

-- the words of polls, and their text
pub polled_words : (m : FlownMission) (fl : Flight) (f u w : ℕ) →
    map (λ poll. poll.word) (polls_of m fl f u w) ≡ map (place_of fl f u w) (executors m (config_of fl u f) w)
polled_words m fl f u w = map-map (λ (poll : Poll). poll.word) (poll_of fl f u w) (executors m (config_of fl u f) w)

pub polled_is : (m : FlownMission) (fl : Flight) (f u w : ℕ) →
    polled_text (polls_of m fl f u w)
    ≡ list_text (map (λ v. unit_digit v ∷ codes ":" ++ text_or_dash word_text (place_of fl f u w v)) (executors m (config_of fl u f) w))
polled_is m fl f u w =
    ap list_text (map-map (λ (poll : Poll). unit_digit poll.unit ∷ codes ":" ++ text_or_dash word_text poll.word) (poll_of fl f u w) (executors m (config_of fl u f) w))

-- the majority that is found
pub majority_told : (r : Option ℕ) (places : List (Option ℕ)) → IfSome r (IsMajority places) → IfNone r (HasNoMajority places) → r ≡ majority_of places
majority_told (Some word) places found none = sym ((majority_is_found places word).1 found)
majority_told None places found none = no_other (majority_of places) refl
  where
    no_other : (vote : Option ℕ) → majority_of places ≡ vote → None ≡ vote
    no_other None e = refl
    no_other (Some word) e = absurd (none word ((majority_is_found places word).0 e))

-- ---- numbers of words

-- the words of a task stand among all words
pub word_low : (tasks : List TaskTree) (t j : ℕ) → t < length tasks → j < (task_at tasks t).outputs → first_word tasks t + j < output_count tasks
word_low tasks t j there low =
    omega (arith, sum_by_more_le (λ (task : TaskTree). task.outputs) tasks t (task_at [] 0) there)

-- the next task's words begin behind those of a task
pub next_first : (tasks : List TaskTree) (t : ℕ) → t < length tasks → first_word tasks (t + 1) ≡ first_word tasks t + (task_at tasks t).outputs
next_first tasks t there = sum_by_more (λ (task : TaskTree). task.outputs) tasks t (task_at [] 0) there

-- one poll more
pub polls_more : (poll : ℕ → Poll) (us more : List ℕ) (u : ℕ) (items new : List Poll) (p : Poll) → items ≡ map poll us → new ≡ items ++ p ∷ [] → p ≡ poll u
    → more ≡ us ++ u ∷ [] → new ≡ map poll more
polls_more poll us more u items new p so_far pushed is one =
    pushed ∙ ap (λ ps. ps ++ p ∷ []) so_far ∙ ap (λ q. map poll us ++ q ∷ []) is ∙ sym (map-append poll us (u ∷ [])) ∙ ap (map poll) (sym one)

-- ---- the line of a vote

module _ (d : MissionData) (fl : Flight) (f u t j : ℕ) where
  abbrev vote_fields : List (List ℕ)
  vote_fields =
      let w = first_word d.program.tasks t + j in
      let place = place_of fl f u w in
      let us = executors (flown d) (config_of fl u f) w in
      (codes "f=" ++ decimal f) ∷ (codes "u=" ++ unit_digit u ∷ []) ∷ (codes "t=" ++ (slice_index_or d.names t [] ++ (codes "." ++ decimal j)))
      ∷ (codes "words=" ++ list_text (map (λ v. unit_digit v ∷ codes ":" ++ text_or_dash word_text (place v)) us))
      ∷ (codes "vote=" ++ text_or_dash word_text (majority_of (map place us))) ∷ []

  -- its fields, written one by one
  vote_written : (word : ℕ) (name : List ℕ) (polls : List Poll) (vote : Option ℕ) (old a b c e : List ℕ)
      → name ≡ slice_index_or d.names t [] → word ≡ first_word d.program.tasks t + j
      → polls ≡ polls_of (flown d) fl f u word → vote ≡ majority_of (map (λ poll. poll.word) polls)
      → a ≡ old ++ codes "f=" ++ decimal f ++ codes " u=" ++ unit_digit u ∷ codes " "
      → b ≡ a ++ (codes "t=" ++ (name ++ (codes "." ++ (decimal j ++ codes " words="))))
      → c ≡ b ++ polled_text polls → e ≡ c ++ (codes " vote=" ++ text_or_dash word_text vote)
      → e ≡ old ++ join_with_byte blank vote_fields
  vote_written word name polls vote old a b c e named numbered polled voted head output listed result =
      let number = first_word d.program.tasks t + j in
      let us = executors (flown d) (config_of fl u f) number in
      let place = place_of fl f u number in
      let polls_are : polls ≡ polls_of (flown d) fl f u number = polled ∙ ap (polls_of (flown d) fl f u) numbered in
      let text : polled_text polls ≡ list_text (map (λ v. unit_digit v ∷ codes ":" ++ text_or_dash word_text (place v)) us) =
      ap polled_text polls_are ∙ polled_is (flown d) fl f u number in
      let winner : vote ≡ majority_of (map place us) =
      voted ∙ ap (λ ps. majority_of (map (λ (poll : Poll). poll.word) ps)) polls_are ∙ ap majority_of (polled_words (flown d) fl f u number) in
      rw (result, listed, output, head, named, text, winner) (simp append_assoc)

  -- and the line feed
  pub vote_ends : (word : ℕ) (name : List ℕ) (polls : List Poll) (vote : Option ℕ) (old a b c e new : List ℕ)
      → name ≡ slice_index_or d.names t [] → word ≡ first_word d.program.tasks t + j
      → polls ≡ polls_of (flown d) fl f u word → vote ≡ majority_of (map (λ poll. poll.word) polls)
      → a ≡ old ++ codes "f=" ++ decimal f ++ codes " u=" ++ unit_digit u ∷ codes " "
      → b ≡ a ++ (codes "t=" ++ (name ++ (codes "." ++ (decimal j ++ codes " words="))))
      → c ≡ b ++ polled_text polls → e ≡ c ++ (codes " vote=" ++ text_or_dash word_text vote) → new ≡ e ++ codes "\n"
      → new ≡ old ++ vote_text d fl f u (record { t = t; j = j })
  vote_ends word name polls vote old a b c e new named numbered polled voted head output listed result pushed =
      pushed ∙ ap (λ bs. bs ++ codes "\n") (vote_written word name polls vote old a b c e named numbered polled voted head output listed result)
      ∙ append_assoc old (join_with_byte blank vote_fields) (codes "\n")

-- the name of a task, where it stands
pub name_is : (parts : MissionParts) (fit : PartsFit (data_of parts)) (t : ℕ) (name : Name) → t < length (data_of parts).program.tasks
    → name ≡ get_or parts.names.items t name → name.bytes ≡ slice_index_or (data_of parts).names t []
name_is parts fit t name low is =
    ap (λ (n : Name). n.bytes) is
    ∙ sym (get_or-map (λ (n : Name). n.bytes) parts.names.items t name [] (omega (arith, fit.names, length-map parts.names.items (λ (n : Name). n.bytes))))

-- the words of a task are within the limit of all words
pub word_room : (d : MissionData) → PartsFit d → (t : ℕ) → t < length d.program.tasks → first_word d.program.tasks t + (task_at d.program.tasks t).outputs ≤ word_limit
word_room d fit t there =
    omega (arith, sum_by_more_le (λ (task : TaskTree). task.outputs) d.program.tasks t (task_at [] 0) there, fit.program.a_start_each, fit.program.few_words)

-- a task of the parts that were looked at is one of the mission
pub task_there : (parts mission : MissionParts) → parts ≡ mission → (t count : ℕ) → t < count → count ≡ vec_len parts.program.tasks
    → t < length (data_of mission).program.tasks
task_there parts mission same t count below counted =
    omega (arith, parts.program.tasks.ok, length-map mission.program.tasks.items tree_of, ap (λ (p : MissionParts). length p.program.tasks.items) same)
