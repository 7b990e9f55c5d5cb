-- Where each line of a sheet stands.
use Rattle.std.proofs.Common.{◌≡◌, ℕ, ◌+◌, ◌*◌, ◌<◌, [], ◌∷◌, length, map, Some, refl, ap, ◌∙◌, arith}
use Rattle.std.specs.List.{flat_map, range_with_len, slice_get}
use Rattle.std.proofs.lemmas.List.{length-append}
use Rattle.std.proofs.lemmas.List.FromFn.{length-map-range_with_len}
use Rattle.sift_mission.specs.Data.{MissionData}
use Rattle.sift_mission.specs.Flown.{flown}
use Rattle.sift_line.specs.declared.line.Version.{Version}
use Rattle.sift_flight.specs.Flight.{Flight}
use Rattle.sift_report.specs.Sheet.{frame_line, frame_lines, last_line, sheet_of, unit_line}
use Rattle.sift_report.specs.Told.{line_at}
use Rattle.sift_report.proofs.Places.{get-behind, get-chunk, get-first, get-left, get-right, length-chunks}

module _ (d : MissionData) (fl : Flight) (version : Version) where
  width : (f : ℕ) → length (frame_lines (flown d) fl version f) ≡ d.units + 1
  width f =
      length-append (map (unit_line (flown d) fl version f) (flown d).units) (frame_line (flown d) fl f ∷ [])
      ∙ ap (λ n. n + 1) (length-map-range_with_len (unit_line (flown d) fl version f) 0 d.units)

  -- a line of a frame, by its place in it
  in_frame : (f i : ℕ) → f < d.frames → i < d.units + 1 →
      line_at d (sheet_of (flown d) fl version) f i ≡ slice_get (frame_lines (flown d) fl version f) i
  in_frame f i low within =
      get-chunk (frame_lines (flown d) fl version) (d.units + 1) width (last_line (flown d) fl ∷ []) 0 d.frames f i (f * (d.units + 1) + i) low within refl
      ∙ ap (λ g. slice_get (frame_lines (flown d) fl version g) i) (omega arith)

  -- the line of a unit
  pub unit_at : (f u : ℕ) → f < d.frames → u < d.units → line_at d (sheet_of (flown d) fl version) f u ≡ Some (unit_line (flown d) fl version f u)
  unit_at f u low within =
      in_frame f u low (omega arith)
      ∙ (get-left (map (unit_line (flown d) fl version f) (flown d).units) (frame_line (flown d) fl f ∷ []) u
      (rw (length-map-range_with_len (unit_line (flown d) fl version f) 0 d.units) within)
      ∙ (get-first (unit_line (flown d) fl version f) 0 d.units u within ∙ ap (λ v. Some (unit_line (flown d) fl version f v)) (omega arith)))

  -- the line of the whole frame
  pub frame_at : (f : ℕ) → f < d.frames → line_at d (sheet_of (flown d) fl version) f d.units ≡ Some (frame_line (flown d) fl f)
  frame_at f low =
      in_frame f d.units low (omega arith)
      ∙ get-right (map (unit_line (flown d) fl version f) (flown d).units) (frame_line (flown d) fl f ∷ []) 0 d.units
      (rw (length-map-range_with_len (unit_line (flown d) fl version f) 0 d.units) (omega arith))

  -- the last line
  pub end_at : line_at d (sheet_of (flown d) fl version) d.frames 0 ≡ Some (last_line (flown d) fl)
  end_at = get-behind (frame_lines (flown d) fl version) (d.units + 1) width (last_line (flown d) fl ∷ []) 0 d.frames 0 (d.frames * (d.units + 1) + 0) refl

  -- and no more
  pub length-sheet : length (sheet_of (flown d) fl version) ≡ d.frames * (d.units + 1) + 1
  length-sheet =
      length-append (flat_map (frame_lines (flown d) fl version) (range_with_len 0 d.frames)) (last_line (flown d) fl ∷ [])
      ∙ ap (λ n. n + 1) (length-chunks (frame_lines (flown d) fl version) (d.units + 1) width [] 0 d.frames)
