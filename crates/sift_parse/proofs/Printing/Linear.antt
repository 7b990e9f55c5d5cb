-- The text of a linear task is what its tree prints.
use Rattle.std.proofs.Common.{◌≡◌, ℕ, ◌<◌, ◌≤◌, ◌^◌, List, [], ◌++◌, length, codes, refl, sym, subst, arith, length-append}
use Rattle.std.specs.Fmt.{decimal}
use Rattle.std.proofs.lemmas.Fmt.{decimal_digit, length-decimal-le}
use Rattle.sift_lang.specs.Tree.{Block}
use Rattle.sift_parse.specs.Lexeme.{text_limit}
use Rattle.sift_parse.specs.Outcome.{linear_text, linear_tree, HasOneWord, LinearTextIsParsed, AreNames}
use Rattle.sift_parse.specs.Printing.{Naming, printed_text}
use Rattle.sift_parse.specs.Refusal.{IsParsed}
use Rattle.sift_parse.specs.Roll.{Roll, first_word}
use Rattle.sift_parse.proofs.Printing.Finding.{name_found}
use Rattle.sift_parse.proofs.Printing.Law.{body-parsed}
use Rattle.sift_parse.proofs.Printing.Named.{WritesWord, IsNamedBlock}

-- the naming of a text that names one task alone
abbrev naming : ℕ → List ℕ → Naming
naming this name =
    record { sensor_name = λ x. []; local_name = λ l. []; task_name = λ w. name; task_of = λ w. this; index_of = λ w. 0 }

-- the body of a linear task
abbrev body : Roll → ℕ → ℕ → Block
body r factor addend = (linear_tree (first_word r r.this) factor addend).body

-- the text of a linear task is what its body prints
linear_printed : (r : Roll) (name : List ℕ) (factor addend : ℕ)
    → printed_text (naming r.this name) (body r factor addend) ≡ linear_text name factor addend
linear_printed r name factor addend = let zero : decimal 0 ≡ codes "0" = decimal_digit 0 (omega arith) in rw zero refl

-- the body of a linear task has its names
linear_named : (r : Roll) (name : List ℕ) (factor addend : ℕ) → AreNames r → HasOneWord r name → factor < 2 ^ 16 → addend < 2 ^ 16
    → IsNamedBlock r (naming r.this name) [] (body r factor addend)
linear_named r name factor addend names own small lt =
    let one = own.one_word in
    let word : WritesWord r name r.this 0 (first_word r r.this) = record {
      is_name = own.is_name;
      found = name_found r.tasks name r.this names.tasks_differ own.named;
      small = omega arith;
      within = omega arith;
      same = omega arith;
    } in
    ((((omega arith, word), omega arith), omega arith, omega arith), tt)

-- the text is short, as its name and its numbers are
linear_short : (name : List ℕ) (factor addend : ℕ) → length name ≤ 16 → factor < 2 ^ 16 → addend < 2 ^ 16
    → length (linear_text name factor addend) ≤ text_limit
linear_short name factor addend short small lt =
    let a = length-decimal-le 5 factor (omega arith) (omega arith) (omega arith) in
    let b = length-decimal-le 5 addend (omega arith) (omega arith) (omega arith) in
    let c = length-append (decimal factor) (codes " * last " ++ (name ++ (codes ".0 + " ++ (decimal addend ++ codes ";")))) in
    let d = length-append name (codes ".0 + " ++ (decimal addend ++ codes ";")) in
    let e = length-append (decimal addend) (codes ";") in
    omega arith

-- the text of a linear task is a task, and has its tree
pub linear_text_is_parsed : LinearTextIsParsed
linear_text_is_parsed r name factor addend names own small lt = record {
  short = linear_short name factor addend own.is_name.short small lt;
  parsed =
      subst (λ t. IsParsed r t (body r factor addend)) (linear_printed r name factor addend)
      (body-parsed r (naming r.this name) (body r factor addend) (linear_named r name factor addend names own small lt) (omega arith));
  outputs = sym own.one_word;
}
