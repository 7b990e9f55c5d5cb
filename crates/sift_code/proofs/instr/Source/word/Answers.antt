use Rattle.std.proofs.Common.{◌≡◌, length, refl, sym, ap, ◌∙◌, arith}
use Rattle.std.proofs.lemmas.Grind.{common_steps}
use Rattle.std.specs.Prelude.{slice_index}
use Rattle.std.proofs.lemmas.List.{get_or-map, get_or_read_under}
use Rattle.sift_code.specs.Sources.{words_at}
use Rattle.sift_code.proofs.instr.Source.word.Goals as goal

-- the word is a sum of two
pub returns : goal.returns
returns c =
    let lists = c.args.lists.now in
    let s = c.args.self.now in
    let list : c.index-lists-self.result.now ≡ words_at lists s.list =
    sym (get_or-map (λ list. list.now) lists s.list c.index-lists-self.result _ c.requires.list ∙ ap (λ list. list.now) (sym c.index-lists-self.is)) in
    let there : c.get-there.result ≡ slice_index (words_at lists s.list) s.at =
    c.get-there.ensures
    ∙ (get_or_read_under c.index-lists-self.result.now s.at (length c.index-lists-self.result.now) c.index-list-self.result 0
    c.index-list-self.is (omega (arith, c.requires.at, ap length list)) refl
    ∙ ap (λ l. slice_index l s.at) list) in
    record {
      own = λ none. omega (arith, c.of.ensures, c.get-own.ensures, c.get-own.type_inv, there, none);
      there = λ none. omega (arith, c.of.ensures, c.get-own.ensures, c.get-there.type_inv, there, none);
    }

pub bounds-list-self : goal.bounds-list-self
bounds-list-self c = grind (arith, common_steps)
