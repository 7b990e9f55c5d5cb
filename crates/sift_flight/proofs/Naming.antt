-- No working unit catches a working unit.
use Rattle.std.proofs.Common.{◌≡◌, inl, inr, ℕ, List, false, not, nat_eq, Some, refl, sym, ap, ◌∙◌, eqb-true}
use Rattle.std.proofs.lemmas.Bool.{cases_Bool, and_parts}
use Rattle.sift_base.specs.Units.{has}
use Rattle.sift_base.specs.declared.slots.Slot.TheVariants.{Sense, RelaySense}
use Rattle.sift_base.specs.laws.Others.{told_apart}
use Rattle.sift_config.specs.Config.{reader_of}
use Rattle.sift_exec.specs.laws.Everyone.{holds-everyone}
use Rattle.sift_mission.specs.Data.{FlownMission}
use Rattle.sift_conduct.specs.Conduct.{caught, relay_catches, clock_catches}
use Rattle.sift_conduct.specs.Frames.{last_of}
use Rattle.sift_flight.specs.Flight.{Flight, Strays}
use Rattle.sift_flight.proofs.Ideal.{IsStep}
use Rattle.sift_flight.proofs.Working.{InFrame, Member, by_config, conduct_here, hears, relay_call, sense_call}
use Rattle.sift_flight.proofs.Timing.{none_far}
use Rattle.sift_flight.proofs.Voting.{any_found, same_not_differs, none_polled}

module _ (m : FlownMission) (strays : Strays) (fl : Flight) (f : ℕ) (us : List ℕ) (here : InFrame m strays fl f us) where
  -- no member catches a member for a relay: it hears the word that it said itself
  none_relayed : (u v : ℕ) → Member m f us u → Member m f us v → relay_catches (by_config m strays fl f us here us u) v ≡ false
  none_relayed u v wu wv = elim (cases_Bool (relay_catches (by_config m strays fl f us here us u) v)) [
    | inr e ↦ e
    | inl t ↦
        let apart = and_parts (not (nat_eq v u)) _ (and_parts (has us v) _ t).1 in
        let ne = told_apart v u apart.0 in
        let found = any_found m.sensors _ apart.1 in
        let x : ℕ = found.0 in
        let both = and_parts (nat_eq (reader_of us x) u) _ found.2 in
        let reads : reader_of us x ≡ u = eqb-true (reader_of us x) u both.0 in
        let heard = hears m strays fl f us here u v (RelaySense x) wu wv (relay_call m strays fl f us here x v u found.1 (λ e. ne (sym e ∙ reads)) wv wu ne) in
        let own = hears m strays fl f us here v u (Sense x) wv wu (sense_call m strays fl f us here x u v found.1 reads wu wv (λ e. ne (sym e))) in
        let all : fl.heard u f (RelaySense x) v ≡ Some (m.sensed x f) = heard ∙ (ap (λ s. fl.heard v f (Sense x) s) reads ∙ own) in
        absurd (same_not_differs (m.sensed x f) (rw all at both.1))
  ]

  -- nor for its clock
  none_timed : (u v : ℕ) → Member m f us u → Member m f us v → clock_catches (by_config m strays fl f us here us u) v ≡ false
  none_timed u v wu wv = elim (cases_Bool (clock_catches (by_config m strays fl f us here us u) v)) [
    | inr e ↦ e
    | inl t ↦
        let apart = and_parts (not (nat_eq v u)) _ (and_parts (has us v) _ t).1 in
        absurd (none_far m strays fl f us here u v wu wv (told_apart v u apart.0) apart.1)
  ]

  -- nor in any way
  pub none_named : (ins before outs : List ℕ) → IsStep m us ins before outs
      → ((u : ℕ) → Member m f us u → (fl.account u f).ins ≡ ins) → ((u : ℕ) → Member m f us u → last_of m (fl.account u) f ≡ before)
      → (u v : ℕ) → Member m f us u → Member m f us v → caught (fl.account u f) v ≡ false
  none_named ins before outs step same_ins same_last u v wu wv =
      let c = (conduct_here m strays fl f us here u wu) in
      holds-everyone (fl.account u f).bad v
      ∙ rw (c.polls v ∙ none_polled m strays fl f us here ins before outs step same_ins same_last u v wu wv, c.relays v ∙ none_relayed u v wu wv, c.clocks v ∙ none_timed u v wu wv) refl
