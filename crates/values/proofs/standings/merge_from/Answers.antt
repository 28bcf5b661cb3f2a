use Rattle.std.proofs.Common.{rules}
use Rattle.values.specs.Theorems.Extents.{length_part}
use Rattle.values.proofs.Words.{merged_put}
use Rattle.values.proofs.standings.merge_from.Goals as goal

pub returns : goal.returns
returns c = search (rules, merged_put, length_part)
