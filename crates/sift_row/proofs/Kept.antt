-- What holds of a row and of the rows behind it holds of all of them.
use Rattle.std.proofs.Common.{◌≡◌, ℕ, List, [], ◌∷◌, get_or, drop, true, bytes_eq, Contains, Some, refl, ap, sym, ◌∙◌, subst, arith}
use Rattle.std.specs.Prelude.{⊤}
use Rattle.std.proofs.lemmas.Grind.{common_steps}
use Rattle.std.proofs.lemmas.List.Elements.{Contains-append_left, Contains-append_right}
use Rattle.std.proofs.lemmas.Option.{same_Some}
use Rattle.std.proofs.lemmas.Slice.Eq.{bytes_eq-Decides}
use Rattle.sift_load.specs.Laws.{OneMissionIsStated, StatedMissionsAreUnrefused}
use Rattle.sift_load.specs.Loads.{document_limit}
use Rattle.sift_options.specs.Options.{numbers_in}
use Rattle.sift_reply.specs.Laws.{AsksOne}
use Rattle.sift_scenario.specs.Laws.{MissionsAreAccepted, OneMission, OneRefusal}
use Rattle.sift_row.specs.Laws.{AreKept, CommandsGiveOne, CommandsHaveOwnStatuses, MissionsAreDone, MissionsAreLoaded, WorkersDoNotShow}
use Rattle.sift_row.specs.Row.{Asks, Flies, IsKept, Row}
use Rattle.sift_row.specs.Rows.{Rows, all_differ, by_case, commands_of, is_among, no_rows, ◌⊕◌}
use Rattle.sift_row.specs.declared.list.Or.{Or}
use Rattle.sift_row.specs.declared.list.Or.TheVariants.{This, Other}
use Rattle.sift_row.proofs.Does as does

-- no row is kept
pub none_kept : AreKept no_rows
none_kept = record {
  asks = λ differ words one other a b. absurd a;
  named = λ words command asks. absurd asks;
  own = λ command. record { among = λ bytes reply gave. absurd gave; apart = λ bytes reply gave. absurd gave };
  listed = λ command status has. has;
  limited = λ command flies. absurd flies;
  one = λ command bytes calm one other gave also. absurd gave;
  workers = λ one other bytes came there same calm gave also. absurd gave;
  loaded = λ command bytes mission reply reads. absurd reads;
  done = λ command mission reply well gave. absurd well.reads;
}

-- a word is among those of which it is the first, and those behind a word that it is among
first : (word : List ℕ) (words : List (List ℕ)) → is_among (word ∷ words) word ≡ true
first word words = let same : bytes_eq word word ≡ true = (bytes_eq-Decides word word).1 refl in rw same refl

later : (word other : List ℕ) (words : List (List ℕ)) → is_among words word ≡ true → is_among (other ∷ words) word ≡ true
later word other words among = grind (arith, common_steps)

-- words that differ have none of them twice
apart : (word : List ℕ) (words : List (List ℕ)) → all_differ (word ∷ words) ≡ true → is_among words word ≡ true → ⊥
apart word words differ among = grind (arith, common_steps)

rest_differ : (word : List ℕ) (words : List (List ℕ)) → all_differ (word ∷ words) ≡ true → all_differ words ≡ true
rest_differ word words differ = grind (arith, common_steps)

module _ {Job Command : Type 0} (row : Row Job) (others : Rows Command) (kept : IsKept row) (are_kept : AreKept others) where
  abbrev all : Rows (Or Job Command)
  all = row ⊕ others

  -- words that begin with the row's word ask for no later command
  elsewhere : all_differ all.words ≡ true → (words : List (List ℕ)) (job : Job) (command : Command) → Asks row words job → ¬ others.asks words command
  elsewhere differ words job command here there =
      let word : get_or words 0 [] ≡ row.word = ap (λ (ws : List (List ℕ)). get_or ws 0 []) here.words_are in
      apart row.word others.words differ (subst (λ (w : List ℕ). is_among others.words w ≡ true) word (are_kept.named words command there))

  asks_one : all_differ all.words ≡ true → AsksOne (commands_of all)
  asks_one differ words (This one) (This other) a b =
      let rest : a.rest ≡ b.rest = ap (drop 1) (sym a.words_are ∙ b.words_are) in
      ap This (same_Some one other (sym a.asked ∙ (ap (λ (ws : List (List ℕ)). row.job_of (numbers_in ws)) rest ∙ b.asked)))
  asks_one differ words (This one) (Other other) a b = absurd (elsewhere differ words one other a b)
  asks_one differ words (Other one) (This other) a b = absurd (elsewhere differ words other one b a)
  asks_one differ words (Other one) (Other other) a b = ap Other (are_kept.asks (rest_differ row.word others.words differ) words one other a b)

  named : (words : List (List ℕ)) (command : Or Job Command) → all.asks words command → is_among all.words (get_or words 0 []) ≡ true
  named words (This job) a =
      let word : get_or words 0 [] ≡ row.word = ap (λ (ws : List (List ℕ)). get_or ws 0 []) a.words_are in
      subst (λ (w : List ℕ). is_among all.words w ≡ true) (sym word) (first row.word others.words)
  named words (Other command) a = later (get_or words 0 []) row.word others.words (are_kept.named words command a)

  own : CommandsHaveOwnStatuses all
  own (This job) = does.own (row.does job) row.statuses (kept.own job)
  own (Other command) = are_kept.own command

  listed : (command : Or Job Command) (status : ℕ) → Contains (all.statuses command) status → Contains all.all_statuses status
  listed (This job) status has = Contains-append_left row.statuses others.all_statuses status has
  listed (Other command) status has = Contains-append_right row.statuses others.all_statuses status (are_kept.listed command status has)

  limited : (command : Or Job Command) → Flies (all.does command) → (all.duty command).limit ≡ Some document_limit
  limited (This job) flies = does.limited (row.does job) flies
  limited (Other command) flies = are_kept.limited command flies

  done : MissionsAreDone all
  done (This job) mission reply well gave = does.done (row.does job) row.statuses (kept.own job) well.well mission reply gave
  done (Other command) mission reply well gave = are_kept.done command mission reply (record { reads = well.reads; well = well.well }) gave

  module _ (missions : OneMission) (accepted : MissionsAreAccepted) (refusals : OneRefusal) (one_stated : OneMissionIsStated)
      (unrefused : StatedMissionsAreUnrefused) where
    gives_one : CommandsGiveOne all
    gives_one (This job) bytes calm =
        does.one missions accepted refusals one_stated unrefused (row.does job) (row.does job) (kept.one job job refl) bytes calm
    gives_one (Other command) bytes calm = are_kept.one command bytes calm

    -- a job of the row is no later command
    apart_from : {job : Job} {command : Command} → all.by_one (This job) ≡ all.by_one (Other command) → ⊥
    apart_from same = subst (λ (c : Or Job Command). by_case (λ (x : Job). ⊤) (λ (y : Command). ⊥) c) same tt

    workers : WorkersDoNotShow all
    workers (This job) (This other) bytes came there same calm gives others_give =
        let alike : row.by_one job ≡ row.by_one other = ap (by_case (λ (x : Job). x) (λ (y : Command). row.by_one job)) same in
        does.one missions accepted refusals one_stated unrefused (row.does job) (row.does other) (kept.one job other alike) bytes calm came there gives others_give
    workers (This job) (Other other) bytes came there same calm gives others_give = absurd (apart_from same)
    workers (Other command) (This other) bytes came there same calm gives others_give = absurd (apart_from (sym same))
    workers (Other command) (Other other) bytes came there same calm gives others_give =
        are_kept.workers command other bytes came there (ap (by_case (λ (x : Job). others.by_one command) (λ (y : Command). y)) same) calm gives others_give

  module _ (one_stated : OneMissionIsStated) (unrefused : StatedMissionsAreUnrefused) where
    loaded : MissionsAreLoaded all
    loaded (This job) bytes mission reply = does.loaded one_stated unrefused (row.does job) bytes mission reply
    loaded (Other command) bytes mission reply = are_kept.loaded command bytes mission reply

-- all of it holds of both
pub all_kept : {Job Command : Type 0} (row : Row Job) (others : Rows Command) → OneMission → MissionsAreAccepted → OneRefusal → OneMissionIsStated
    → StatedMissionsAreUnrefused → IsKept row → AreKept others → AreKept (row ⊕ others)
all_kept row others missions accepted refusals one_stated unrefused kept are_kept = record {
  asks = asks_one row others kept are_kept;
  named = named row others kept are_kept;
  own = own row others kept are_kept;
  listed = listed row others kept are_kept;
  limited = limited row others kept are_kept;
  one = gives_one row others kept are_kept missions accepted refusals one_stated unrefused;
  workers = workers row others kept are_kept missions accepted refusals one_stated unrefused;
  loaded = loaded row others kept are_kept one_stated unrefused;
  done = done row others kept are_kept;
}
