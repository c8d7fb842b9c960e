use Rattle.std.proofs.Common.{refl, subst}
use Rattle.disk_queue.specs.Parts.{IsSound}
use Rattle.disk_queue.proofs.Peeks.{size_begins, few_read}
use Rattle.disk_queue.proofs.Sound.{named_as, sound_named, ends_within}
use Rattle.disk_queue.proofs.queue.Queue.size_here.Goals as goal

pub returns-in-Got : goal.returns-in-Got
returns-in-Got g c = record {
  seen = named_as _ c.args.self.now c.read_at.new.self c.in-Got.ensures.name c.self.view_is;
  sound = subst IsSound c.self.view_is c.self.invariant;
  is = λ told. few_read _ _ (g.F.Folder.files c.args.folder.now) _ c.read_at.new.into c.in-Got.field-0 c.self.view_is refl c.in-Got.field-0-test.1 (c.in-Got.ensures.bytes told);
  ends = tt;
  same = c.in-Got.ensures.same;
  faults = c.in-Got.ensures.faults;
  cause = tt;
  exact = c.in-Got.ensures.exact;
}

pub returns-in-Failed : goal.returns-in-Failed
returns-in-Failed g c = record {
  seen = named_as _ c.args.self.now c.read_at.new.self c.in-Failed.ensures.name c.self.view_is;
  sound = subst IsSound c.self.view_is c.self.invariant;
  is = λ told. tt;
  ends = tt;
  same = c.in-Failed.ensures.same;
  faults = c.in-Failed.ensures.faults;
  cause = c.in-Failed.ensures.cause;
  exact = c.in-Failed.ensures.exact;
}

pub returns : goal.returns
returns g c = record {
  seen = named_as _ c.args.self.now c.read_at.new.self c.in-Got-eq4.ensures.name c.self.view_is;
  sound = subst IsSound c.self.view_is c.self.invariant;
  is = λ told.
      size_begins _ _ (g.F.Folder.files c.args.folder.now) _ c.read_at.new.into c.size_spelled.result c.in-Got-eq4.field-0 c.self.view_is refl c.in-Got-eq4.field-0-test (c.in-Got-eq4.ensures.bytes told) c.size_spelled.ensures
      c.size_spelled.type_inv;
  ends = ends_within _ c.args.self.now c.in-Got-eq4.field-0 c.self.view_is c.in-Got-eq4.field-0-test c.in-Got-eq4.ensures.limit;
  same = c.in-Got-eq4.ensures.same;
  faults = c.in-Got-eq4.ensures.faults;
  cause = tt;
  exact = c.in-Got-eq4.ensures.exact;
}

pub invariant_of-self : goal.invariant_of-self
invariant_of-self g c = sound_named _ c.read_at.new.self c.self.invariant

pub invariant_of-self-2 : goal.invariant_of-self-2
invariant_of-self-2 g c = sound_named _ c.read_at.new.self c.self.invariant

pub invariant_of-self-in-Failed : goal.invariant_of-self-in-Failed
invariant_of-self-in-Failed g c = sound_named _ c.read_at.new.self c.self.invariant
