-- A journal keeps the words that the conduct tells.
use Rattle.std.proofs.Common.{◌≡◌, ℕ, ◌==◌, ◌&&◌, Bool, true, false, if◌then◌else◌, Option, Some, option_and_then, refl, sym, ap, ◌∙◌}
use Rattle.sift_base.specs.declared.slots.Layout.{Layout}
use Rattle.sift_buffer.specs.Conduct.{Conduct, Saying, Hearing, fresh, saying, hearing, put_at, with_said, with_heard}
use Rattle.sift_buffer.specs.Journals.{said_in, heard_in, IsBlank, NotesSaid, NotesHeard}
use Rattle.sift_buffer.specs.Ledgers.{Ledger, HasItsWords, conduct_in}

-- the words of a new ledger
pub words_fresh : (l : Ledger) (layout : Layout) (unit frames : ℕ) → IsBlank l.pages layout unit frames → conduct_in l ≡ fresh → HasItsWords l
words_fresh l layout unit frames blank conduct = record {
  said = λ f k q. (λ i. blank.said i f k q) ∙ sym (ap (λ (d : Conduct). option_and_then (λ (act : Saying). act.word) (d.said f k q)) conduct);
  heard = λ f k p. (λ i. blank.heard i f k p) ∙ sym (ap (λ (d : Conduct). option_and_then (λ (act : Hearing). act.word) (d.heard f k p)) conduct);
}

-- an act more, and its word
put_word : {A : Type 0} (word : A → Option ℕ) (words : ℕ → ℕ → ℕ → Option ℕ) (acts : ℕ → ℕ → ℕ → Option A) (f k q : ℕ) (act : A) →
    ((f k q : ℕ) → words f k q ≡ option_and_then word (acts f k q)) → (f' k' q' : ℕ) →
    put_at words f k q (word act) f' k' q' ≡ option_and_then word (put_at acts f k q (Some act) f' k' q')
put_word word words acts f k q act same f' k' q' = go (f' == f && k' == k && q' == q)
  where
    go : (t : Bool) → (if t then word act else words f' k' q') ≡ option_and_then word (if t then Some act else acts f' k' q')
    go true = refl
    go false = same f' k' q'

module _ (l l' : Ledger) (has : HasItsWords l) (f k q s : ℕ) (w : Option ℕ) where
  -- a saying more
  pub words_said : NotesSaid l.pages l'.pages f k q w → conduct_in l' ≡ with_said (conduct_in l) f k q s w → HasItsWords l'
  words_said noted conduct = record {
    said = λ f' k' q'. (λ i. noted.said i f' k' q')
        ∙ (put_word (λ (act : Saying). act.word) (said_in l.pages) (conduct_in l).said f k q (saying s w) has.said f' k' q'
        ∙ sym (ap (λ (d : Conduct). option_and_then (λ (act : Saying). act.word) (d.said f' k' q')) conduct));
    heard = λ f' k' p'. (λ i. noted.heard i f' k' p')
        ∙ (has.heard f' k' p' ∙ sym (ap (λ (d : Conduct). option_and_then (λ (act : Hearing). act.word) (d.heard f' k' p')) conduct));
  }

  -- a hearing more
  pub words_heard : NotesHeard l.pages l'.pages f k q w → conduct_in l' ≡ with_heard (conduct_in l) f k q s w → HasItsWords l'
  words_heard noted conduct = record {
    said = λ f' k' q'. (λ i. noted.said i f' k' q')
        ∙ (has.said f' k' q' ∙ sym (ap (λ (d : Conduct). option_and_then (λ (act : Saying). act.word) (d.said f' k' q')) conduct));
    heard = λ f' k' p'. (λ i. noted.heard i f' k' p')
        ∙ (put_word (λ (act : Hearing). act.word) (heard_in l.pages) (conduct_in l).heard f k q (hearing s l.progress w) has.heard f' k' p'
        ∙ sym (ap (λ (d : Conduct). option_and_then (λ (act : Hearing). act.word) (d.heard f' k' p')) conduct));
  }
