use Rattle.std.proofs.Common.{Some, refl, ap}
use Rattle.std.proofs.Math.Nat.{le_of_eq}
use Rattle.circular_buffer.specs.Buffer.{Buffer}
use Rattle.v2_frame.specs.declared.message.Message.{Message}
use Rattle.backlog.specs.declared.backlog.Lent.TheVariants.{Nothing}
use Rattle.backlog.proofs.Opening.{opened_again, opened_holds}
use Rattle.backlog.proofs.backlog.Backlog.open.Goals as goal

pub returns-in_default : goal.returns-in_default
returns-in_default g c = record {
  seen = tt;
  durable = tt;
  list = λ told. tt;
  opened = λ told. tt;
  again = λ told. tt;
  stands = λ told. tt;
  tidied = λ told. tt;
  refused = λ told file. refl;
  others = λ told file other. refl;
  faults = le_of_eq refl;
  cause = tt;
  exact = λ counts. refl;
}

pub returns : goal.returns
returns g c =
    let queue = c.in_ok-queue.queue in
    let opened = c.in_ok-queue.ensures in
    let before = g.F.Folder.files c.args.folder.now in
    let after = g.F.Folder.files c.open.new.folder in
    record {
      seen = record { is = ap (λ (b : Buffer Message). record { ring = b.items; capacity = b.capacity; queue = Some queue; lent = Nothing }) c.in-Ok.ensures; queue = opened.seen };
      durable = refl;
      list = λ told messages was. opened_holds queue c.args.options c.args.name.now before after messages opened.seen c.requires (opened.list told) was;
      opened = opened.list;
      again = λ told. opened_again queue c.args.options c.args.name.now before after opened.seen c.requires (opened.list told);
      stands = opened.stands;
      tidied = opened.tidied;
      refused = λ told. tt;
      others = opened.others;
      faults = opened.faults;
      cause = tt;
      exact = opened.exact;
    }
