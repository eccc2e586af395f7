-- Field by field, what each read ensures.
use Rattle.layout.proofs.read_claim.Goals as goal

pub returns : goal.returns
returns c =
    simp (
      c.u16_at-4.ensures,
      c.u16_at-3.ensures,
      c.u16_at-2.ensures,
      c.u16_at.ensures,
      c.claim_at-at.ensures,
    )
