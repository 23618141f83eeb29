-- A 16-bit number has no bit from 16 on.
use borrow.Author.Rules.{rules}
use borrow.Author.Tests.{le-ltb}
use mathlib.Core.Path.{refl, sym, ◌∙◌}
use Rattle.sets.specs.Sets.{member}
use Rattle.sets.proofs.Membership.{member_beyond}
use Rattle.sets.proofs.member.Goals as goal

pub returns-then-id-lt16 : goal.returns-then-id-lt16
unfolding member
returns-then-id-lt16 c = refl

pub returns-else-id-lt16 : goal.returns-else-id-lt16
returns-else-id-lt16 c = le-ltb c.args.id 16 c.if-id-lt16.false ∙ sym (member_beyond c.args.set c.args.id (search rules) c.if-id-lt16.false)
