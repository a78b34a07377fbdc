use Rattle.std.proofs.Common.{refl}
use Rattle.isa.specs.Opcodes.{opcodes}
use Rattle.isa.proofs.Entries.{entry_is, entry_past, rule_known}
use Rattle.isa.proofs.table.entry.Goals as goal

pub returns-then-opcode-lt94 : goal.returns-then-opcode-lt94
unfolding opcodes
returns-then-opcode-lt94 c =
    record { is = entry_is c.args.opcode _ c.if-opcode-lt94.true; rule = rule_known c.args.opcode _ c.if-opcode-lt94.true }

pub returns-else-opcode-lt94 : goal.returns-else-opcode-lt94
returns-else-opcode-lt94 c = record { is = entry_past c.args.opcode c.if-opcode-lt94.false; rule = refl }
