-- The fields of a line tell its form.
use Rattle.std.proofs.Common.{◌≡◌, ℕ, ℤ, ◌<◌, ◌≤◌, List, [], ◌∷◌, length, map, get_or, Bool, Option, Some, None, IfSome, Bor, refl, sym, ap, arith, codes}
use Rattle.arrayvec.specs.ArrayVec.{ArrayVec as Items}
use Rattle.sift_line.specs.declared.line.ReportLine.{ReportLine}
use Rattle.sift_line.specs.declared.line.ReportLine.TheVariants.{Unit as unit, Faulty, Idle, Frame, Last}
use Rattle.sift_line.specs.declared.catch.Bad.{Bad}
use Rattle.sift_line.specs.declared.line.Version.{Version}
use Rattle.sift_line.specs.Bad.{version_of}
use Rattle.sift_line.proofs.Results.{held}
use Rattle.sift_line.specs.Line.{HasVersion, IsLine, fields_of}

-- the text at a place of a slice
abbrev pub text_at : List (Bor (List ℕ)) → ℕ → List ℕ
text_at xs k = (get_or xs k (record { ref_ptr = (0, 0); now = [] })).now

-- the texts of a slice of three are those at its places 0 to 2
pub three_texts : (xs : List (Bor (List ℕ))) → 3 ≤ length xs → length xs < 4
    → map (λ f. f.now) xs ≡ text_at xs 0 ∷ text_at xs 1 ∷ text_at xs 2 ∷ []
three_texts (a ∷ b ∷ c ∷ []) low high = refl
three_texts xs low high = absurd (omega arith)

-- the texts of a slice of four are those at its places 0 to 3
pub four_texts : (xs : List (Bor (List ℕ))) → 4 ≤ length xs → length xs < 5
    → map (λ f. f.now) xs ≡ text_at xs 0 ∷ text_at xs 1 ∷ text_at xs 2 ∷ text_at xs 3 ∷ []
four_texts (a ∷ b ∷ c ∷ d ∷ []) low high = refl
four_texts xs low high = absurd (omega arith)

-- the texts of a slice of seven are those at its places 0 to 6
pub seven_texts : (xs : List (Bor (List ℕ))) → 7 ≤ length xs → length xs < 8
    → map (λ f. f.now) xs ≡ text_at xs 0 ∷ text_at xs 1 ∷ text_at xs 2 ∷ text_at xs 3 ∷ text_at xs 4 ∷ text_at xs 5 ∷ text_at xs 6 ∷ []
seven_texts (a ∷ b ∷ c ∷ d ∷ e ∷ f ∷ g ∷ []) low high = refl
seven_texts xs low high = absurd (omega arith)

-- the fields at a place are one where all are
pub field_at : (k : ℕ) (xs ys : List (List ℕ)) → xs ≡ ys → get_or xs k [] ≡ get_or ys k []
field_at k xs ys same = ap (λ zs. get_or zs k []) same

-- and so are the bytes
pub byte_at : (k : ℕ) (bs cs : List ℕ) → bs ≡ cs → get_or bs k 0 ≡ get_or cs k 0
byte_at k bs cs same = ap (λ ds. get_or ds k 0) same

-- lines of units are one where what was read of their fields is
pub same_unit : (f n u v : ℕ) (cfg us : List ℕ) (clk ticks : ℤ) (ins agreed outs voted : Items ℕ) (bad caught : Bad)
    → ◌≡◌ {A = Option (ℕ × ℕ)} (Some (f, u)) (Some (n, v)) → Some cfg ≡ Some us → Some clk ≡ Some ticks → Some bad ≡ Some caught → Some ins ≡ Some agreed
    → Some outs ≡ Some voted → Some (unit f u cfg clk ins outs bad) ≡ Some (unit n v us ticks agreed voted caught)
same_unit f n u v cfg us clk ticks ins agreed outs voted bad caught heads cfgs clks bads read_in read_out =
    let same_head = held {X = ℕ × ℕ} (f, u) (n, v) heads in
    let same_f : f ≡ n = ap (λ (head : ℕ × ℕ). head.0) same_head in
    let same_u : u ≡ v = ap (λ (head : ℕ × ℕ). head.1) same_head in
    cc

-- a line of fewer than seven fields has each version
pub few_have_version : (version : Version) (result : Option ReportLine) (texts : List (List ℕ)) → length texts < 7
    → IfSome result (λ line. fields_of line ≡ texts) → IfSome result (HasVersion version)
few_have_version version None texts few read = tt
few_have_version version (Some (unit n u cfg clk ins outs bad)) texts few read = absurd (omega (arith, ap length read))
few_have_version version (Some (Faulty n u)) texts few read = tt
few_have_version version (Some (Idle n u)) texts few read = tt
few_have_version version (Some (Frame n s l m)) texts few read = tt
few_have_version version (Some (Last n cfg m)) texts few read = tt

-- a line of seven fields is that of a unit that tells its account
pub seven_are_unit : (version : Version) (line : ReportLine) (a b c d e f g : List ℕ) (result : Option ReportLine) → IsLine line
    → HasVersion version line
    → fields_of line ≡ a ∷ b ∷ c ∷ d ∷ e ∷ f ∷ g ∷ []
    → ((n u : ℕ) (cfg : List ℕ) (clk : ℤ) (ins outs : Items ℕ) (bad : Bad) → IsLine (unit n u cfg clk ins outs bad) → version_of bad ≡ version
    → fields_of (unit n u cfg clk ins outs bad) ≡ a ∷ b ∷ c ∷ d ∷ e ∷ f ∷ g ∷ [] → result ≡ Some (unit n u cfg clk ins outs bad))
    → result ≡ Some line
seven_are_unit version (unit n u cfg clk ins outs bad) a b c d e f g result holds of same exact = exact n u cfg clk ins outs bad holds of same
seven_are_unit version (Faulty n u) a b c d e f g result holds of same exact = cc
seven_are_unit version (Idle n u) a b c d e f g result holds of same exact = cc
seven_are_unit version (Frame n s l m) a b c d e f g result holds of same exact = cc
seven_are_unit version (Last n cfg m) a b c d e f g result holds of same exact = cc

-- one of four fields that begins with `end` is the last
pub end_is_last : (line : ReportLine) (b c d : List ℕ) (result : Option ReportLine) → IsLine line
    → fields_of line ≡ codes "end" ∷ b ∷ c ∷ d ∷ []
    → ((n : ℕ) (cfg : List ℕ) (m : Bool) → IsLine (Last n cfg m)
    → fields_of (Last n cfg m) ≡ codes "end" ∷ b ∷ c ∷ d ∷ [] → result ≡ Some (Last n cfg m))
    → result ≡ Some line
end_is_last (unit n u cfg clk ins outs bad) b c d result holds same exact = cc
end_is_last (Faulty n u) b c d result holds same exact = cc
end_is_last (Idle n u) b c d result holds same exact = cc
end_is_last (Frame n s l m) b c d result holds same exact = absurd (omega (arith, ap (λ xs. get_or (get_or xs 0 []) 0 0) same))
end_is_last (Last n cfg m) b c d result holds same exact = exact n cfg m holds same

-- any other of four fields is that of a frame
pub four_are_frame : (line : ReportLine) (a b c d : List ℕ) (result : Option ReportLine) → IsLine line
    → fields_of line ≡ a ∷ b ∷ c ∷ d ∷ [] → (a ≡ codes "end" → ⊥)
    → ((n : ℕ) (s l : Option ℤ) (m : Bool) → IsLine (Frame n s l m)
    → fields_of (Frame n s l m) ≡ a ∷ b ∷ c ∷ d ∷ [] → result ≡ Some (Frame n s l m))
    → result ≡ Some line
four_are_frame (unit n u cfg clk ins outs bad) a b c d result holds same other exact = cc
four_are_frame (Faulty n u) a b c d result holds same other exact = cc
four_are_frame (Idle n u) a b c d result holds same other exact = cc
four_are_frame (Frame n s l m) a b c d result holds same other exact = exact n s l m holds same
four_are_frame (Last n cfg m) a b c d result holds same other exact = absurd (other (ap (λ xs. get_or xs 0 []) (sym same)))
