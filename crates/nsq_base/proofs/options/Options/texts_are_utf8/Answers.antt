use Rattle.std.proofs.Common.{◌≡◌, ◌↔◌, IsTrue, Bool, true, false, refl, sym, ◌∙◌}
use Rattle.std.specs.List.{All}
use Rattle.std.proofs.lemmas.Bool.{false≢true}
use Rattle.nsq_base.specs.Options.{AreTextsUtf8}
use Rattle.nsq_base.specs.Text.{IsText}
use Rattle.nsq_base.specs.declared.options.Options.{Options}
use Rattle.nsq_base.proofs.options.Options.texts_are_utf8.Goals as goal
use Rattle.nsq_base.proofs.options.Options.texts_are_utf8.Goals.{then-is_utf8, else-is_utf8, then-is_utf8-2, else-is_utf8-2, then-is_utf8-3, else-is_utf8-3}

-- where the first part of a test holds, the second decides
then_both : (P Q : Type 0) (a b v : Bool) → (IsTrue a ↔ P) → a ≡ true → (IsTrue b ↔ Q) → v ≡ b → IsTrue v ↔ (P × Q)
then_both P Q a b v p e q s = (λ h. (p.0 e, q.0 (sym s ∙ h)), λ h. s ∙ q.1 h.1)

-- where it doesn't, the whole fails
else_both : (P Q : Type 0) (a v : Bool) → (IsTrue a ↔ P) → a ≡ false → v ≡ a → IsTrue v ↔ (P × Q)
else_both P Q a v p e s = (λ h. absurd (false≢true (sym e ∙ sym s ∙ h)), λ h. s ∙ p.1 h.0)

-- the texts in the order of the test
abbrev Three : Options → Type 0
Three o = (IsText o.tcp_address × IsText o.http_address) × IsText o.broadcast_address

abbrev Five : Options → Type 0
Five o = (Three o × All IsText o.lookupd_tcp_address) × IsText o.data_path

as_record : (o : Options) (v : Bool) → (IsTrue v ↔ Five o) → IsTrue v ↔ AreTextsUtf8 o
as_record o v f = (
  λ h. let five : Five o = f.0 h in
      record { tcp_address = five.0.0.0.0; http_address = five.0.0.0.1; broadcast_address = five.0.0.1; lookupd_tcp_address = five.0.1; data_path = five.1 },
  λ t. f.1 ((((t.tcp_address, t.http_address), t.broadcast_address), t.lookupd_tcp_address), t.data_path),
)

pub returns-then-are_utf8 : goal.returns-then-are_utf8
returns-then-are_utf8 c =
    let o = c.args.self.now in
    let two : IsTrue c.if-is_utf8.value ↔ (IsText o.tcp_address × IsText o.http_address) =
    elim c.if-is_utf8.branch [ then-is_utf8 w ↦ then_both _ _ _ _ _ c.is_utf8.ensures w.if-is_utf8.true w.is_utf8-then-is_utf8.ensures w.value-is | else-is_utf8 w ↦ else_both _ _ _ _ c.is_utf8.ensures w.if-is_utf8.false w.value-is ] in
    let three : IsTrue c.if-is_utf8-2.value ↔ Three o =
    elim c.if-is_utf8-2.branch [ then-is_utf8-2 w ↦ then_both _ _ _ _ _ two w.if-is_utf8-2.true w.is_utf8-then-is_utf8-2.ensures w.value-is | else-is_utf8-2 w ↦ else_both _ _ _ _ two w.if-is_utf8-2.false w.value-is ] in
    let four : IsTrue c.if-is_utf8-3.value ↔ (Three o × All IsText o.lookupd_tcp_address) =
    elim c.if-is_utf8-3.branch [ then-is_utf8-3 w ↦ then_both _ _ _ _ _ three w.if-is_utf8-3.true (rw w.as_slice.ensures at w.are_utf8.ensures) w.value-is | else-is_utf8-3 w ↦ else_both _ _ _ _ three w.if-is_utf8-3.false w.value-is ] in
    as_record o _ (then_both _ _ _ _ _ four c.if-are_utf8.true c.is_utf8-then-are_utf8.ensures refl)

pub returns-else-are_utf8 : goal.returns-else-are_utf8
returns-else-are_utf8 c =
    let o = c.args.self.now in
    let two : IsTrue c.if-is_utf8.value ↔ (IsText o.tcp_address × IsText o.http_address) =
    elim c.if-is_utf8.branch [ then-is_utf8 w ↦ then_both _ _ _ _ _ c.is_utf8.ensures w.if-is_utf8.true w.is_utf8-then-is_utf8.ensures w.value-is | else-is_utf8 w ↦ else_both _ _ _ _ c.is_utf8.ensures w.if-is_utf8.false w.value-is ] in
    let three : IsTrue c.if-is_utf8-2.value ↔ Three o =
    elim c.if-is_utf8-2.branch [ then-is_utf8-2 w ↦ then_both _ _ _ _ _ two w.if-is_utf8-2.true w.is_utf8-then-is_utf8-2.ensures w.value-is | else-is_utf8-2 w ↦ else_both _ _ _ _ two w.if-is_utf8-2.false w.value-is ] in
    let four : IsTrue c.if-is_utf8-3.value ↔ (Three o × All IsText o.lookupd_tcp_address) =
    elim c.if-is_utf8-3.branch [ then-is_utf8-3 w ↦ then_both _ _ _ _ _ three w.if-is_utf8-3.true (rw w.as_slice.ensures at w.are_utf8.ensures) w.value-is | else-is_utf8-3 w ↦ else_both _ _ _ _ three w.if-is_utf8-3.false w.value-is ] in
    as_record o _ (else_both _ _ _ _ four c.if-are_utf8.false refl)
