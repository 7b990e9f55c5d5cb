-- The lead unit works, and its configuration is the one at the frame.
use Rattle.std.proofs.Common.{◌≡◌, inl, inr, ℕ, ◌<◌, List, [], ◌∷◌, Bool, true, false, nat_eq, unwrap_or, refl, sym, ap, subst, lt-ltb}
use Rattle.std.specs.List.{find}
use Rattle.std.proofs.lemmas.Bool.{cases_Bool, ne_eqb}
use Rattle.sift_base.specs.Units.{has}
use Rattle.sift_base.specs.laws.Counts.{has-head, has-tail}
use Rattle.sift_mission.specs.Data.{FlownMission}
use Rattle.sift_mission.specs.Premises.{IsFlyable}
use Rattle.sift_flight.specs.Flight.{Flight, config_of}
use Rattle.sift_flight.specs.Figures.{Works, lead_of, config_at}

-- where some unit of a list passes a test, the first that does is in the list, and passes
first_passes : (p : ℕ → Bool) (us : List ℕ) (v : ℕ) → has us v ≡ true → p v ≡ true → (has us (unwrap_or (find p us) 0) ≡ true) × (p (unwrap_or (find p us) 0) ≡ true)
first_passes p [] v h t = absurd cc
first_passes p (u ∷ us) v h t =
    elim (cases_Bool (p u)) [
      | inl pu ↦
          let e : unwrap_or (find p (u ∷ us)) 0 ≡ u = rw pu refl in
          subst (λ x. (has (u ∷ us) x ≡ true) × (p x ≡ true)) (sym e) (has-head u us, pu)
      | inr npu ↦
          let other : nat_eq u v ≡ false = ne_eqb u v (λ e. let x = ap p e in cc) in
          let rest = first_passes p us v (rw other at h) t in
          let e : unwrap_or (find p (u ∷ us)) 0 ≡ unwrap_or (find p us) 0 = rw npu refl in
          subst (λ x. (has (u ∷ us) x ≡ true) × (p x ≡ true)) (sym e) (has-tail u us (unwrap_or (find p us) 0) rest.0, rest.1)
    ]

-- the lead unit works
pub lead_works : (m : FlownMission) → IsFlyable m → (f : ℕ) → Works m (lead_of m f) f
lead_works m flyable f =
    let s = flyable.script.steady in
    let t = first_passes (λ u. m.works u f) m.units s.0 s.1 (s.2 f) in
    record { unit = t.0; works = t.1 }

-- in the mission's frames the configuration is the lead unit's, and after them what the last lead unit found
pub config_within : (m : FlownMission) (fl : Flight) (f : ℕ) → f < m.frames → config_at m fl f ≡ config_of fl (lead_of m f) f
config_within m fl f low = rw (lt-ltb f m.frames low) refl
