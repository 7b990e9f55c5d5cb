-- The text of pieces is a task, where each may stand in its place and their tokens are one.
use Rattle.std.proofs.Common.{List, [], ◌∷◌, length, sym, subst}
use Rattle.std.specs.Prelude.{map}
use Rattle.sift_lang.specs.Tree.{Block}
use Rattle.sift_parse.specs.Force.{at_start}
use Rattle.sift_parse.specs.Force as force
use Rattle.sift_parse.specs.Grammar.{IsTask, Begins}
use Rattle.sift_parse.specs.Pieces.{Item, key, called, figure, joined, sign, lexeme_for, Piece, text_of}
use Rattle.sift_parse.specs.Refusal.{lexemes_of, IsParsed}
use Rattle.sift_parse.specs.Roll.{Roll}
use Rattle.sift_parse.specs.Scanned.{IsFine}
use Rattle.sift_parse.proofs.Places.Placing.{tokens-told, begins-told}
use Rattle.sift_parse.proofs.Printing.Agrees.{front-agrees}
use Rattle.sift_parse.proofs.Printing.Keywords.{keyword-form}
use Rattle.sift_parse.proofs.Printing.Known.{Known, at_front, known_after, tokens_by}
use Rattle.sift_parse.proofs.Printing.MayStand.{MayStand, AllMayStand}
use Rattle.sift_parse.proofs.Printing.Read.{items_in, pieces_read}
use Rattle.sift_parse.proofs.Printing.Signs.{items-tokens, items-fine}
use Rattle.sift_parse.proofs.Printing.Spacing.{AllFollow, IsFormed, AllFormed}
use Rattle.sift_parse.proofs.Refusals.Answering.{begins-task}
use Rattle.sift_parse.proofs.Refusals.Fine.{AllFine, fine-at}
use Rattle.sift_parse.proofs.Refusals.Standing.{none_before}

-- the lexeme of an item that may stand is formed
formed : (r : Roll) (h : Known) (i : Item) → MayStand r h i → IsFormed (lexeme_for i)
formed r h (key k) may = keyword-form k
formed r h (called w n) may = may.0.formed
formed r h (figure n) may = may.0
formed r h (joined op) may = tt
formed r h (sign s) may = tt

-- so is each
all-formed : (r : Roll) (h : Known) (ps : List Piece) → AllMayStand r h (items_in ps) → AllFormed ps
all-formed r h [] may = tt
all-formed r h (p ∷ ps) may = (formed r h p.item may.0, all-formed r (known_after h p.item) ps may.1)

-- pieces that spell a task are a text of it
pub pieces-parsed : (r : Roll) (ps : List Piece) (body : Block) → AllFollow ps → AllMayStand r at_front (items_in ps)
    → IsTask (tokens_by r at_front (items_in ps)) body → IsParsed r (text_of ps) body
pieces-parsed r ps body follow may t =
    let is = items_in ps in
    let i = pieces_read (length (text_of ps)) ps (all-formed r at_front ps may) follow in
    let ls = lexemes_of i.placed in
    let same : IsTask (force.tokens_of r (map lexeme_for is)) body =
    subst (λ ts. IsTask ts body) (sym (items-tokens r at_start at_front is (front-agrees r) may)) t in
    let task : IsTask (force.tokens_of r ls) body = subst (λ ls. IsTask (force.tokens_of r ls) body) (sym i.same) same in
    let all : AllFine r at_start ls = subst (AllFine r at_start) (sym i.same) (items-fine r at_start at_front is (front-agrees r) may) in
    let fine : IsFine r i.placed = λ front more p e. fine-at r at_start i.placed front more p e all in
    let begins : Begins (force.tokens_of r ls) = begins-task (force.tokens_of r ls) body task in
    record {
      front = i.placed;
      lexes = i.lexes;
      task = subst (λ ts. IsTask ts body) (sym (tokens-told r ls begins)) task;
      fine = none_before r (text_of ps) [] i.placed i.lexes fine (begins-told r ls begins);
    }
