-- The logs of a flight over a bus that carries one value count the words that the flight tells to be wrong.
use Rattle.std.proofs.Common.{◌≡◌, inl, inr, ℕ, suc, ◌+◌, ◌<◌, ◌&&◌, Bool, true, false, not, nat_lt, List, [], ◌∷◌, length, replicate, slice_index_or, All, Option, Some, None, option_map, if◌then◌else◌, refl, sym, ap, ◌∙◌, subst, arith}
use Rattle.std.specs.List.{range_with_len, sum_by}
use Rattle.std.proofs.lemmas.List.{get_or-replicate, length-replicate}
use Rattle.std.proofs.lemmas.List.Sums.{sum_by-cons}
use Rattle.std.proofs.lemmas.Option.{same_Some}
use Rattle.sift_base.specs.Layout.{slot_count}
use Rattle.sift_base.specs.declared.slots.Layout.{Layout}
use Rattle.sift_buffer.specs.Conduct.{Hearing}
use Rattle.sift_buffer.specs.Ranges.{Ranges}
use Rattle.sift_buffer.specs.Tables.{ranges_of}
use Rattle.sift_mission.specs.Fits.{IsNumbered}
use Rattle.sift_mission.specs.Data.{FlownMission}
use Rattle.sift_mission.specs.Slots.{calls}
use Rattle.sift_flight.specs.Flight.{Flight, config_of}
use Rattle.sift_bus_port.specs.Buses.{AllowsConstant, Carriage, is_same}
use Rattle.sift_bus_port.specs.Flown.{AreLogsOf, IsLogOf}
use Rattle.sift_bus_port.specs.Links.{CarriesAll, Link, first_link}
use Rattle.sift_bus_port.specs.Logs.{Log, blank_log, count_in, count_places, has_entry, log_of}
use Rattle.sift_bus_port.specs.Telling.{IsCarried, LogsTellWhatWasHeard, TellsCarried}
use Rattle.sift_bus_port.specs.Telling as telling
use Rattle.sift_bus_port.specs.declared.bus.Constant.{Constant}
use Rattle.sift_bus_port.specs.declared.log.BusLog.{BusLog}
use Rattle.sift_bus_port.specs.laws.Counting.{same_places, entry_there}
use Rattle.sift_bus_jobs.specs.Numbers.{BusNumbers, bus_of}
use Rattle.sift_bus_jobs.specs.Wrong.{carried_for, is_changed, is_wrong_at, wrong_for, wrong_in}

-- ---- counts

-- the sum over a list is that over the numbers of its places
sum_range : {X : Type 0} (g : X → ℕ) (h : ℕ → ℕ) (xs : List X) (a : ℕ) → ((i : ℕ) (d : X) → i < length xs → g (slice_index_or xs i d) ≡ h (a + i)) →
    sum_by g xs ≡ sum_by h (range_with_len a (length xs))
sum_range g h [] a each = refl
sum_range g h (x ∷ xs) a each =
    let here : g x ≡ h a = each 0 x (omega arith) ∙ ap h (omega arith) in
    let later = sum_range g h xs (a + 1) (λ i d low. each (suc i) d (omega arith) ∙ ap h (omega arith)) in
    sum_by-cons g x xs ∙ ((λ i. here i + later i) ∙ sym (sum_by-cons h a (range_with_len (a + 1) (length xs))))

-- ---- one value

-- the bus that carries one value is the same after any words
stays : (x y : Link Constant) (words : List Carriage) → CarriesAll AllowsConstant x words y → y.bus ≡ x.bus
stays x y [] all = λ i. (all i).bus
stays x y (c ∷ cs) all = all.2.allowed.1 ∙ stays x all.0 cs all.1

-- what a bus carries of a word
abbrev carried_by : Constant → ℕ → Option ℕ → Option ℕ
carried_by bus f word = if nat_lt f bus.from then word else bus.value

-- each word came as this bus carries it
carried_so : (x y : Link Constant) (words : List Carriage) (c : Carriage) → CarriesAll AllowsConstant x words y → IsCarried c words →
    c.carried ≡ carried_by x.bus c.frame c.word
carried_so x y [] c all there = absurd there
carried_so x y (d ∷ ds) c all (inl same) = subst (λ (e : Carriage). e.carried ≡ carried_by x.bus e.frame e.word) (sym same)
    (subst (λ (b : Constant). d.carried ≡ carried_by b d.frame d.word) (stays x all.0 ds all.1) all.2.allowed.0)
carried_so x y (d ∷ ds) c all (inr later) = carried_so x all.0 ds c all.1 later

-- ---- one unit

-- a word that was called is wrong where the bus carries another, and none that wasn't
wrong_word : (o : Option Hearing) (called : Bool) (word carried : Option ℕ) (job : BusNumbers) (f : ℕ) →
    option_map (λ act. act.word) o ≡ (if called then Some word else None) → ((act : Hearing) → o ≡ Some act → carried ≡ carried_for job f act.word) →
    telling.is_wrong o carried ≡ (called && is_changed job f word)
wrong_word None true word carried job f heard of = absurd cc
wrong_word None false word carried job f heard of = refl
wrong_word (Some act) true word carried job f heard of =
    ap (λ (v : Option ℕ). not (is_same v act.word)) (of act refl) ∙ ap (λ (w : Option ℕ). is_changed job f w) (same_Some act.word word heard)
wrong_word (Some act) false word carried job f heard of = absurd cc

-- all logs have the frames of the mission, whatever the buses carried
pub frames_are : (m : FlownMission) (fl : Flight) (layout : Layout) (faulty : ℕ) (buses : List Constant) (logs : List BusLog) →
    AreLogsOf AllowsConstant m fl layout faulty buses logs → All (λ log. (log_of log).ranges.frames ≡ m.frames) logs
frames_are m fl layout faulty buses logs are u l low =
    ap (λ (r : Ranges). r.frames) (are.each u (record { from = 0; value = None }) l (omega (arith, low, are.count))).ranges

module _ (job : BusNumbers) (m : FlownMission) (fl : Flight) (layout : Layout) (numbered : IsNumbered m)
    (slots : m.slots ≡ slot_count layout) (units : length m.units ≡ layout.units) (tells : LogsTellWhatWasHeard AllowsConstant) where
  module _ (u : ℕ) (log : Log) (is : IsLogOf AllowsConstant m fl layout job.bus u (bus_of job) log) where
    -- the unit before it has heard anything
    abbrev first : Link Constant
    first = first_link u job.bus (bus_of job) (blank_log layout m.frames)

    tells_carried : TellsCarried is.carried.words is.last.heard log
    tells_carried = subst (λ (l : Log). TellsCarried is.carried.words is.last.heard l) is.log_is
        (tells first is.last is.carried.words refl refl is.carried.carried).1

    -- the log has what the bus carries of each word that was heard
    came : (f k p : ℕ) → f < m.frames → k < m.slots → p < length m.units → (act : Hearing) → is.last.heard f k p ≡ Some act →
        log.carried f k p ≡ carried_for job f act.word
    came f k p frame slot unit act heard =
        let there = subst (λ (r : Ranges). has_entry r f k p ≡ true) (sym is.ranges)
        (entry_there (ranges_of layout m.frames) f k p frame (omega (arith, slots, slot)) (omega (arith, units, unit))) in
        let of = tells_carried.of_heard f k p act heard there in
        of.3 ∙ (carried_so first is.last is.carried.words of.0 is.carried.carried of.1 ∙ (λ i. carried_by (bus_of job) (of.2.frame i) (of.2.word i)))

    -- it is called in the slot of a number, and this is the word of the flight
    abbrev is_called : (f k p : ℕ) → Bool
    is_called f k p = calls m (config_of fl u f) (m.kind k) p u

    abbrev word_of : (f k p : ℕ) → Option ℕ
    word_of f k p = fl.heard u f (m.kind k) p

    -- it heard the words of the flight
    word_there : (f k p : ℕ) → f < m.frames → k < m.slots →
        option_map (λ act. act.word) (is.last.heard f k p) ≡ (if is_called f k p then Some (word_of f k p) else None)
    word_there f k p frame slot =
        subst (λ (n : ℕ). option_map (λ act. act.word) (is.last.heard f n p) ≡ (if is_called f k p then Some (word_of f k p) else None))
        (numbered.there k slot) (is.heard f (m.kind k) p frame (numbered.slot k slot))

    -- by the log, the word is wrong
    abbrev wrong_there : (f k p : ℕ) → Bool
    wrong_there f k p = telling.is_wrong (is.last.heard f k p) (log.carried f k p)

    -- so the log counts the words of the flight that are wrong
    count_is : (f : ℕ) → f < m.frames → count_in log f job.bus ≡ wrong_for job m fl f u
    count_is f frame =
        is.tells.faulty_bus f (omega (arith, frame, ap (λ (r : Ranges). r.frames) is.ranges))
        ∙ ((λ i. count_places (wrong_there f) (is.ranges i).slots (is.ranges i).units)
        ∙ ((λ i. count_places (wrong_there f) (sym slots i) (sym units i))
        ∙ same_places (wrong_there f) (is_wrong_at job m fl f u) m.slots (length m.units)
        (λ k p slot unit. wrong_word (is.last.heard f k p) (is_called f k p) (word_of f k p) (log.carried f k p) job f
        (word_there f k p frame slot) (came f k p frame slot unit))))

  -- ---- all units

  module _ (logs : List BusLog) (are : AreLogsOf AllowsConstant m fl layout job.bus (replicate layout.units (bus_of job)) logs) where
    pub long : length logs ≡ layout.units
    long = are.count ∙ length-replicate layout.units (bus_of job)

    -- the log of a unit
    log_is : (u : ℕ) (l : BusLog) → u < length logs →
        IsLogOf AllowsConstant m fl layout job.bus u (bus_of job) (log_of (slice_index_or logs u l))
    log_is u l low = subst (λ (b : Constant). IsLogOf AllowsConstant m fl layout job.bus u b (log_of (slice_index_or logs u l)))
        (get_or-replicate layout.units u (bus_of job) (bus_of job) (omega (arith, low, long)))
        (are.each u (bus_of job) l (omega (arith, low, are.count)))

    -- each counts the words that are wrong of its unit
    each_counts : (f : ℕ) → f < m.frames → (u : ℕ) (l : BusLog) → u < length logs →
        count_in (log_of (slice_index_or logs u l)) f job.bus ≡ wrong_for job m fl f (0 + u)
    each_counts f frame u l low =
        count_is u (log_of (slice_index_or logs u l)) (log_is u l low) f frame ∙ ap (wrong_for job m fl f) (omega arith)

    -- and together they count all that are
    pub counts_are : m.units ≡ range_with_len 0 layout.units → (f : ℕ) → f < m.frames →
        sum_by (λ log. count_in (log_of log) f job.bus) logs ≡ wrong_in job m fl f
    counts_are range f frame =
        sum_range (λ log. count_in (log_of log) f job.bus) (wrong_for job m fl f) logs 0 (each_counts f frame)
        ∙ ((λ i. sum_by (wrong_for job m fl f) (range_with_len 0 (long i))) ∙ (λ i. sum_by (wrong_for job m fl f) (sym range i)))
