-- What three buses give of a word.
use Rattle.std.proofs.Common.{◌≡◌, ◌≢◌, ℕ, zero, suc, ◌<◌, ◌==◌, ◌&&◌, Bool, true, false, not, List, map, slice_index_or, Option, Some, None, refl, ap, ◌∙◌, arith, eq-eqb, ne_eqb}
use Rattle.std.specs.Prelude.{IfSome}
use Rattle.sift_vote.specs.Majority.{IsMajority}
use Rattle.sift_bus_port.specs.Buses.{bus_count, is_same, three_of}

-- a word, or absence, is the same as itself
same_itself : (w : Option ℕ) → is_same w w ≡ true
same_itself None = refl
same_itself (Some w) = eq-eqb w w refl

-- a word is the majority of the three
has_majority : (w : ℕ) (carried : Option ℕ) (faulty : ℕ) → faulty < bus_count → IsMajority (three_of (Some w) faulty carried) w
has_majority w carried faulty low = grind arith

-- no word is, where absence was carried
has_none : (v : ℕ) (carried : Option ℕ) (faulty : ℕ) → faulty < bus_count → ¬ IsMajority (three_of None faulty carried) v
has_none v carried faulty low = grind arith

-- the majority of the three is the word
pub majority_is : (word carried result : Option ℕ) (faulty : ℕ) → faulty < bus_count → IfSome result (IsMajority (three_of word faulty carried)) →
    ((w : ℕ) → IsMajority (three_of word faulty carried) w → result ≡ Some w) → result ≡ word
majority_is (Some w) carried result faulty low found exact = exact w (has_majority w carried faulty low)
majority_is None carried None faulty low found exact = refl
majority_is None carried (Some v) faulty low found exact = absurd (has_none v carried faulty low found)

-- another bus than the faulty one is not wrong
other : (bus faulty : ℕ) (b : Bool) → bus ≢ faulty → false ≡ (bus == faulty && b)
other bus faulty b away = rw (ne_eqb bus faulty away) refl

-- the faulty bus gives another word where it carried another, and no other bus does
wrong_at : (word carried : Option ℕ) (faulty : ℕ) → faulty < bus_count → (bus : ℕ) →
    slice_index_or (map (λ given. not (is_same given word)) (three_of word faulty carried)) bus false ≡ (bus == faulty && not (is_same carried word))
wrong_at word carried zero low zero = refl
wrong_at word carried zero low (suc zero) = ap not (same_itself word)
wrong_at word carried zero low (suc (suc zero)) = ap not (same_itself word)
wrong_at word carried zero low (suc (suc (suc bus))) = other (suc (suc (suc bus))) zero (not (is_same carried word)) (λ e. absurd (omega arith))
wrong_at word carried (suc zero) low zero = ap not (same_itself word)
wrong_at word carried (suc zero) low (suc zero) = refl
wrong_at word carried (suc zero) low (suc (suc zero)) = ap not (same_itself word)
wrong_at word carried (suc zero) low (suc (suc (suc bus))) = other (suc (suc (suc bus))) (suc zero) (not (is_same carried word)) (λ e. absurd (omega arith))
wrong_at word carried (suc (suc zero)) low zero = ap not (same_itself word)
wrong_at word carried (suc (suc zero)) low (suc zero) = ap not (same_itself word)
wrong_at word carried (suc (suc zero)) low (suc (suc zero)) = refl
wrong_at word carried (suc (suc zero)) low (suc (suc (suc bus))) =
    other (suc (suc (suc bus))) (suc (suc zero)) (not (is_same carried word)) (λ e. absurd (omega arith))
wrong_at word carried (suc (suc (suc faulty))) low bus = absurd (omega arith)

-- and so which buses give another word than the majority
pub wrong_is : (word carried taken : Option ℕ) (faulty : ℕ) (buses : List (Option ℕ)) (wrong : List Bool) → faulty < bus_count →
    buses ≡ three_of word faulty carried → taken ≡ word → wrong ≡ map (λ given. not (is_same given taken)) buses →
    (bus : ℕ) → slice_index_or wrong bus false ≡ (bus == faulty && not (is_same carried word))
wrong_is word carried taken faulty buses wrong low three same is bus = ap (λ (ws : List Bool). slice_index_or ws bus false)
    (is ∙ (λ j. map (λ given. not (is_same given (same j))) (three j))) ∙ wrong_at word carried faulty low bus
