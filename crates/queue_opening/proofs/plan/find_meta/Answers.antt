use Rattle.std.proofs.Common.{◌∙◌, refl, subst, arith, true}
use Rattle.nsq_outside.specs.Causes.{CountsFault}
use Rattle.queue_opening.proofs.Plans.{spoilt_long, spoilt_read, says_read}
use Rattle.queue_opening.proofs.plan.find_meta.Goals as goal

pub returns-in-Absent : goal.returns-in-Absent
returns-in-Absent g c = record {
  found = c.in-Absent.ensures.length;
  usable = tt;
  bad_meta = λ told. tt;
  same = c.in-Absent.ensures.same;
  faults = c.in-Absent.ensures.faults;
  cause = tt;
  exact = c.in-Absent.ensures.exact;
}

pub returns-in-Failed : goal.returns-in-Failed
returns-in-Failed g c = record {
  found = λ told. tt;
  usable = tt;
  bad_meta = λ told. tt;
  same = c.in-Failed.ensures.same;
  faults = c.in-Failed.ensures.faults;
  cause = c.in-Failed.ensures.cause;
  exact = c.in-Failed.ensures.exact;
}

pub returns-in-Failed-read_at : goal.returns-in-Failed-read_at
returns-in-Failed-read_at g c = record {
  found = λ told. tt;
  usable = tt;
  bad_meta = λ told. tt;
  same = λ told name. c.in-Failed-read_at.ensures.same told name ∙ c.in-Is.ensures.same told name;
  faults = omega (arith, c.in-Is.ensures.faults, c.in-Failed-read_at.ensures.faults);
  cause = omega (arith, c.in-Is.ensures.faults, c.in-Failed-read_at.ensures.cause);
  exact = λ counts. subst (λ n. CountsFault n (g.F.Folder.folder_faults c.read_at.new.self) true) (c.in-Is.ensures.exact counts) (c.in-Failed-read_at.ensures.exact counts);
}

pub returns-then-len-gt-LONGEST : goal.returns-then-len-gt-LONGEST
returns-then-len-gt-LONGEST g c = record {
  found = λ told. tt;
  usable = tt;
  bad_meta = λ told.
      spoilt_long (g.F.Folder.files c.args.folder.now c.args.file.now) (g.F.Folder.files c.len.new.self c.args.file.now) c.in-Is.field-0 c.in-Got.len _ c.read_at.new.into
      (c.in-Is.ensures.length told) (c.in-Is.ensures.same told c.args.file.now) (c.in-Got.ensures.bytes told) c.if-len-gt-LONGEST.true;
  same = λ told name. c.in-Got.ensures.same told name ∙ c.in-Is.ensures.same told name;
  faults = omega (arith, c.in-Is.ensures.faults, c.in-Got.ensures.faults);
  cause = tt;
  exact = λ counts. c.in-Got.ensures.exact counts ∙ c.in-Is.ensures.exact counts;
}

pub returns-in-None : goal.returns-in-None
returns-in-None g c = record {
  found = λ told. tt;
  usable = tt;
  bad_meta = λ told.
      spoilt_read (g.F.Folder.files c.args.folder.now c.args.file.now) (g.F.Folder.files c.len.new.self c.args.file.now) c.in-Is.field-0 c.in-Got.len _ c.read_at.new.into _
      (c.in-Is.ensures.length told) (c.in-Is.ensures.same told c.args.file.now) (c.in-Got.ensures.bytes told) refl c.if-len-gt-LONGEST.false refl c.in-None.ensures;
  same = λ told name. c.in-Got.ensures.same told name ∙ c.in-Is.ensures.same told name;
  faults = omega (arith, c.in-Is.ensures.faults, c.in-Got.ensures.faults);
  cause = tt;
  exact = λ counts. c.in-Got.ensures.exact counts ∙ c.in-Is.ensures.exact counts;
}

pub returns-in-Some : goal.returns-in-Some
returns-in-Some g c = record {
  found = λ told.
      says_read (g.F.Folder.files c.args.folder.now c.args.file.now) (g.F.Folder.files c.len.new.self c.args.file.now) c.in-Is.field-0 c.in-Got.len _ c.read_at.new.into _ c.in-Some.positions
      (c.in-Is.ensures.length told) (c.in-Is.ensures.same told c.args.file.now) (c.in-Got.ensures.bytes told) refl c.if-len-gt-LONGEST.false refl c.in-Some.ensures;
  usable = record { ordered = c.in-Some.ensures.1.ordered; range = c.in-Some.ensures.1.in_range };
  bad_meta = λ told. tt;
  same = λ told name. c.in-Got.ensures.same told name ∙ c.in-Is.ensures.same told name;
  faults = omega (arith, c.in-Is.ensures.faults, c.in-Got.ensures.faults);
  cause = tt;
  exact = λ counts. c.in-Got.ensures.exact counts ∙ c.in-Is.ensures.exact counts;
}
