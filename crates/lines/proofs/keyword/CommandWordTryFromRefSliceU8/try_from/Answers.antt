use Rattle.std.proofs.Common.{◌≢◌, refl, rules}
use Rattle.lines.specs.Keywords.{command_text}
use Rattle.lines.specs.declared.keyword.CommandWord.{CommandWord}
use Rattle.lines.specs.declared.keyword.CommandWord.TheVariants.{Memory, Row, Lay, Make, Put, Set, Fetch, Get, Run, Last, Release}
use Rattle.lines.proofs.keyword.CommandWordTryFromRefSliceU8.try_from.Goals as goal

none : (c : goal.In_default) (k : CommandWord) → c.args.word.now ≢ command_text k
none c Memory e = search rules
none c Row e = search rules
none c Lay e = search rules
none c Make e = search rules
none c Put e = search rules
none c Set e = search rules
none c Fetch e = search rules
none c Get e = search rules
none c Run e = search rules
none c Last e = search rules
none c Release e = search rules

pub returns-in_default : goal.returns-in_default
returns-in_default c = (refl, none c)
