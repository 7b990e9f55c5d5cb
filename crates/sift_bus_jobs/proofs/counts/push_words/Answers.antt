use Rattle.std.proofs.Common.{ℕ, ◌++◌, ◌||◌, ap, sym, ◌∙◌, nat_lt, string_bytes}
use Rattle.std.specs.List.{sum_by}
use Rattle.sift_line.specs.laws.Printed.{text_more}
use Rattle.sift_bus_port.specs.Logs.{count_in, log_of}
use Rattle.sift_bus_jobs.specs.Text.{frame_text}
use Rattle.sift_bus_jobs.proofs.Texts.{any_more}
use Rattle.sift_bus_jobs.proofs.counts.push_words.Goals as goal

-- the line of one frame more
pub loop-f-preserved : goal.loop-f-preserved
loop-f-preserved c =
    let words : ℕ → ℕ = λ f. sum_by (λ log. count_in (log_of log) f c.args.bus) c.args.logs.now in (
      text_more (λ f. frame_text c.args.bus f (words f)) c.loop-f.f (string_bytes c.args.text.now) (string_bytes c.loop-f.text) (string_bytes c.push_frame.new.text)
          c.loop-f.invariant.0
          (c.in_ok-push_frame.ensures ∙ ap (λ (n : ℕ). string_bytes c.loop-f.text ++ frame_text c.args.bus c.loop-f.f n) c.wrong_in-words.ensures),
      (λ i. c.loop-f.invariant.1 i || nat_lt 0 (c.wrong_in-words.ensures i)) ∙ sym (any_more (λ f. nat_lt 0 (words f)) c.loop-f.f),
    )
