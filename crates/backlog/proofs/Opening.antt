-- What an opening finds, as messages.
use Rattle.std.proofs.Common.{ℕ, ◌≡◌, ◌+◌, List, [], map, ap, subst, ◌∙◌, arith}
use Rattle.nsq_outside.specs.Files.{Files}
use Rattle.queue_image.specs.Finds.{Finding, Records, IsFound}
use Rattle.queue_image.proofs.Walking.{one_finding}
use Rattle.v2_frame.specs.declared.message.Message.{Message}
use Rattle.v2_frame.specs.Written.{message_bytes}
use Rattle.disk_queue.specs.Seen.{Seen as Queue, opened_queue}
use Rattle.disk_queue.specs.Holding.{Holds}
use Rattle.disk_queue.specs.Opened.{IsOpened}
use Rattle.disk_queue.specs.QueueOptions.{QueueOptions}
use Rattle.backlog.specs.Seen.{ForMessages, longest_body}
use Rattle.backlog.specs.Lists.{HoldsAll, IsFoundAgain, WasFound}

same_bodies : (xs ys : List (List ℕ)) (bad worse : List ℕ) → Records xs bad ≡ Records ys worse → xs ≡ ys
same_bodies xs ys bad worse e = cc

-- a finding under other names of its numbers and its name
pub found_for : (least limit low high : ℕ) (files : Files) (named name : List ℕ) (x : Finding) → low ≡ least → high ≡ limit → named ≡ name → IsFound low high files named x → IsFound least limit files name x
found_for least limit low high files named name x l h n found =
    subst (λ (b : List ℕ). IsFound least limit files b x) n (subst (λ (k : ℕ). IsFound least k files named x) h (subst (λ (k : ℕ). IsFound k high files named x) l found))

-- the queue has the messages that its opening found
pub opened_holds : (q : Queue) (options : QueueOptions) (name : List ℕ) (old new : Files) (messages : List Message) → q ≡ opened_queue name options q.depth q.positions → ForMessages options
    → IsOpened q old new → WasFound name old messages → HoldsAll q new messages
opened_holds q options name old new messages seen for opened was =
    let least : q.options.least ≡ 26 = ap (λ (r : Queue). r.options.least) seen ∙ for.least in
    let limit : q.options.limit ≡ 26 + longest_body = ap (λ (r : Queue). r.options.limit) seen ∙ for.limit in
    let named : q.name ≡ name = ap (λ (r : Queue). r.name) seen in
    let found = found_for 26 (26 + longest_body) q.options.least q.options.limit old q.name name (Records opened.bodies opened.bad) least limit named opened.found in
    let one = one_finding 26 (26 + longest_body) old name (Records opened.bodies opened.bad) (Records (map message_bytes messages) was.bad) (omega arith) found was.found in
    record {
      list = subst (λ (bodies : List (List ℕ)). Holds q new bodies []) (same_bodies _ _ _ _ one) opened.holds;
      stored = was.stored;
    }

-- a queue that was opened is found again
pub opened_again : (q : Queue) (options : QueueOptions) (name : List ℕ) (old new : Files) → q ≡ opened_queue name options q.depth q.positions → ForMessages options → IsOpened q old new → IsFoundAgain name old new
opened_again q options name old new seen for opened =
    let least : q.options.least ≡ 26 = ap (λ (r : Queue). r.options.least) seen ∙ for.least in
    let limit : q.options.limit ≡ 26 + longest_body = ap (λ (r : Queue). r.options.limit) seen ∙ for.limit in
    let named : q.name ≡ name = ap (λ (r : Queue). r.name) seen in
    record {
      bodies = opened.bodies;
      bad = opened.bad;
      found = found_for 26 (26 + longest_body) q.options.least q.options.limit old q.name name (Records opened.bodies opened.bad) least limit named opened.found;
      again = found_for 26 (26 + longest_body) q.options.least q.options.limit new q.name name (Records opened.bodies []) least limit named opened.kept.found;
    }
