use Rattle.std.proofs.Common.{◌≡◌, arith, cond, Some, string_bytes, ◌∙◌, sym}
use Rattle.std.proofs.lemmas.Map.Text.{text_keys}
use Rattle.std.specs.Str.{bytes_eq}
use Rattle.nsq_fakes.specs.MemFiles.{files_of}
use Rattle.nsq_fakes.proofs.Lists.{first_of-push}
use Rattle.nsq_fakes.proofs.files.made_of.Goals as goal

pub loop-name-preserved-in_ok-insert : goal.loop-name-preserved-in_ok-insert
loop-name-preserved-in_ok-insert c = λ name.
    let after : files_of c.insert.new.self name ≡ cond (bytes_eq name (string_bytes c.in-Some.name)) (Some c.in-Some.bytes.items) (files_of c.loop-name.files name) = grind (arith, text_keys) in
    rw after (sym (first_of-push c.pop.new.self.items c.in-Some.name c.in-Some.bytes name (files_of c.loop-name.files name)) ∙ rw c.in-Some.ensures.items at (c.loop-name.invariant name))

pub loop-name-preserved : goal.loop-name-preserved
loop-name-preserved c = λ name.
    let after : files_of c.insert.new.self name ≡ cond (bytes_eq name (string_bytes c.in-Some.name)) (Some c.in-Some.bytes.items) (files_of c.loop-name.files name) = grind (arith, text_keys) in
    rw after (sym (first_of-push c.pop.new.self.items c.in-Some.name c.in-Some.bytes name (files_of c.loop-name.files name)) ∙ rw c.in-Some.ensures.items at (c.loop-name.invariant name))
