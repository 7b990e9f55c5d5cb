-- Lines that hold their fields, one after the other.
use Rattle.std.proofs.Common.{Result, Ok, Err, ◌≡◌, ℕ, zero, suc, ◌+◌, ◌≤◌, List, [], ◌∷◌, ◌++◌, length, map, take, Some, ap, subst, sym, ◌∙◌, arith}
use Rattle.std.specs.Prelude.{slice_get}
use Rattle.std.specs.Result.{OnOk}
use Rattle.std.specs.List.{All, flat_map, range_with_len}
use Rattle.std.proofs.lemmas.Grind.{flat_map-append}
use Rattle.std.proofs.lemmas.List.{append-nil, map_more, take_all}
use Rattle.std.proofs.lemmas.List.Elements.{All-append}
use Rattle.std.proofs.lemmas.Option.{slice_get_within, get_or_from_slice_get}
use Rattle.sift_base.specs.laws.Ranges.{range-next}
use Rattle.sift_line.specs.Line.{IsLine}
use Rattle.sift_line.specs.declared.line.ReportLine.{ReportLine}

-- what holds in any case holds where all went well
pub on_ok : {T E : Type 0} (r : Result T E) {X : Type 0} → X → OnOk r X
on_ok (Ok value) x = x
on_ok (Err reason) x = tt

one_line : (line : ReportLine) → IsLine line → All IsLine (line ∷ [])
one_line line holds zero d low = holds
one_line line holds (suc i) d low = absurd (omega arith)

-- the line of one unit more
pub one_more : (line : ℕ → ReportLine) (us : List ℕ) (i u : ℕ) → slice_get us i ≡ Some u
    → All IsLine (map line (take i us)) → IsLine (line u) → All IsLine (map line (take (i + 1) us))
one_more line us i u there so_far here =
    let more : map line (take (i + 1) us) ≡ map line (take i us) ++ line u ∷ [] =
    map_more line us i u (slice_get_within us i u there) ∙ ap (λ v. map line (take i us) ++ line v ∷ []) (get_or_from_slice_get us i u u there) in
    subst (All IsLine) (sym more) (All-append IsLine (map line (take i us)) (line u ∷ []) so_far (one_line (line u) here))

-- the lines of all units, and that of the frame behind them
pub all_of_frame : (line : ℕ → ReportLine) (us units : List ℕ) (i : ℕ) (frame last : ReportLine) → All IsLine (map line (take i us))
    → length us ≤ i → us ≡ units → last ≡ frame → IsLine last → All IsLine (map line units ++ frame ∷ [])
all_of_frame line us units i frame last so_far seen same is holds =
    All-append IsLine (map line units) (frame ∷ []) (subst (λ vs. All IsLine (map line vs)) (take_all i us seen ∙ same) so_far)
    (one_line frame (subst IsLine is holds))

-- the lines of one frame more
pub one_frame_more : (lines : ℕ → List ReportLine) (n : ℕ) → All IsLine (flat_map lines (range_with_len 0 n)) → All IsLine (lines n)
    → All IsLine (flat_map lines (range_with_len 0 (n + 1)))
one_frame_more lines n so_far here =
    let more : flat_map lines (range_with_len 0 (n + 1)) ≡ flat_map lines (range_with_len 0 n) ++ lines n =
    rw (range-next n, flat_map-append lines) (simp append-nil) in
    subst (All IsLine) (sym more) (All-append IsLine (flat_map lines (range_with_len 0 n)) (lines n) so_far here)

-- the lines of all frames, and the last one
pub all_of_report : (lines : ℕ → List ReportLine) (end : ReportLine) (n frames : ℕ) (last : ReportLine) → n ≡ frames → last ≡ end
    → All IsLine (flat_map lines (range_with_len 0 n)) → IsLine last → All IsLine (flat_map lines (range_with_len 0 frames) ++ end ∷ [])
all_of_report lines end n frames last all is so_far holds =
    All-append IsLine (flat_map lines (range_with_len 0 frames)) (end ∷ [])
    (subst (λ k. All IsLine (flat_map lines (range_with_len 0 k))) all so_far) (one_line end (subst IsLine is holds))
