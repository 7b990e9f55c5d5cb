-- What is written into a log is noted there.
use Rattle.std.proofs.Common.{◌≡◌, ℕ, zero, suc, ◌<◌, ◌&&◌, Bool, true, false, nat_eq, List, length, replicate, slice_set, slice_index_or, if◌then◌else◌, Option, None, refl, ap, ◌∙◌, arith}
use Rattle.sift_base.specs.declared.slots.Layout.{Layout}
use Rattle.sift_buffer.specs.Conduct.{put_at}
use Rattle.sift_buffer.specs.Ranges.{Ranges}
use Rattle.sift_buffer.specs.Tables.{IsEntry, ranges_of, entry_at, entry_count, entry_number}
use Rattle.sift_buffer.proofs.lemmas.Tables.{entry_none, entry_set}
use Rattle.sift_bus_port.specs.Logs.{log_by, blank_log, has_entry, none_wrong}

-- a list of one value has nothing else
all_one : {A : Type 0} (n i : ℕ) (a : A) → slice_index_or (replicate n a) i a ≡ a
all_one zero i a = refl
all_one (suc n) zero a = refl
all_one (suc n) (suc i) a = all_one n i a

-- where no bus is wrong, none is
none_is_wrong : (bus : ℕ) → slice_index_or none_wrong bus false ≡ false
none_is_wrong zero = refl
none_is_wrong (suc zero) = refl
none_is_wrong (suc (suc zero)) = refl
none_is_wrong (suc (suc (suc bus))) = refl

-- a new log
pub blank : (layout : Layout) (frames m n : ℕ) → log_by layout frames (replicate m None) (replicate n none_wrong) ≡ blank_log layout frames
blank layout frames m n i = record {
  ranges = ranges_of layout frames;
  carried = entry_none None (ranges_of layout frames) (replicate m None) (λ j. all_one m j None) i;
  wrong = λ f k p bus. (ap (λ (g : ℕ → ℕ → ℕ → List Bool). slice_index_or (g f k p) bus false)
      (entry_none none_wrong (ranges_of layout frames) (replicate n none_wrong) (λ j. all_one n j none_wrong)) ∙ none_is_wrong bus) i;
}

-- of one of two lists, a place is that of this list
place_of_either : (b : Bool) (xs ys : List Bool) (bus : ℕ) →
    slice_index_or (if b then xs else ys) bus false ≡ if◌then◌else◌ {A = ℕ → Bool} b (λ i. slice_index_or xs i false) (λ i. slice_index_or ys i false) bus
place_of_either true xs ys bus = refl
place_of_either false xs ys bus = refl

-- one entry more
pub noted : (layout : Layout) (frames f k p : ℕ) (cs : List (Option ℕ)) (ws : List (List Bool)) (carried : Option ℕ) (wrong : List Bool) →
    let r = ranges_of layout frames in IsEntry r f k p → length cs ≡ entry_count r → length ws ≡ entry_count r →
    log_by layout frames (slice_set cs (entry_number r f k p) carried) (slice_set ws (entry_number r f k p) wrong)
    ≡ record (log_by layout frames cs ws) {
      carried = put_at (log_by layout frames cs ws).carried f k p carried;
      wrong = put_at (log_by layout frames cs ws).wrong f k p (λ bus. slice_index_or wrong bus false);
    }
noted layout frames f k p cs ws carried wrong within long wide i = let r : Ranges = ranges_of layout frames in record {
  ranges = r;
  carried = entry_set None r cs f k p carried within long i;
  wrong = λ f' k' p' bus. (ap (λ (g : ℕ → ℕ → ℕ → List Bool). slice_index_or (g f' k' p') bus false) (entry_set none_wrong r ws f k p wrong within wide)
      ∙ place_of_either (nat_eq f' f && nat_eq k' k && nat_eq p' p) wrong (entry_at none_wrong r ws f' k' p') bus) i;
}

-- the log has the entry
pub entry_is : (r : Ranges) (f k p : ℕ) → has_entry r f k p ≡ true → IsEntry r f k p
entry_is r f k p has = let low : (f < r.frames) × ((k < r.slots) × (p < r.units)) = grind arith in record { frame = low.0; slot = low.1.0; unit = low.1.1 }
