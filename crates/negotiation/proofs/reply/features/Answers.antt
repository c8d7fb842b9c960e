use Rattle.std.proofs.Common.{refl}
use Rattle.negotiation.proofs.reply.features.Goals as goal

pub returns-clause-text : goal.returns-clause-text
returns-clause-text c = rw (
  c.in_ok-extend_from_slice-6.ensures.items,
  c.in_ok-extend_from_slice-5.ensures.items,
  c.in_ok-extend_from_slice-4.ensures.items,
  c.in_ok-extend_from_slice-3.ensures.items,
  c.in_ok-extend_from_slice-2.ensures.items,
  c.in_ok-extend_from_slice.ensures.items,
  c.in_ok-text.ensures,
  c.as_bytes.ensures.value,
  c.format.ensures.text,
  c.as_bytes-2.ensures.value,
  c.format-2.ensures.text,
  c.as_bytes-3.ensures.value,
  c.format-3.ensures.text,
) refl
