-- How often the daemon ticked, in histories that are joined.
use Rattle.std.proofs.Common.{◌≡◌, ◌+◌, ◌++◌, length, ◌∙◌, ap, length-append, filter}
use Rattle.std.proofs.lemmas.List.Elements.{filter-append}
use Rattle.broker_history.specs.Entries.{History, is_tick}
use Rattle.broker_history.specs.Answers.{ticks_of}

pub ticks-append : (h k : History) → ticks_of (h ++ k) ≡ ticks_of h + ticks_of k
ticks-append h k = ap length (filter-append (λ e. is_tick e.0.act) h k) ∙ length-append (filter (λ e. is_tick e.0.act) h) (filter (λ e. is_tick e.0.act) k)
