-- Each case is answered by the tests.
use Rattle.cases.specs.Layings.{LayingsHold, area_ends, layings, row_fields, orders, overlaps, row_counts, laid_sizes}
use Rattle.cases.proofs.Deciding.{from_some}
use Rattle.cases.proofs.Answering.{all_hold}
use Rattle.cases.proofs.worked_layings_hold.Goals as goal

pub returns-clause-layings : goal.returns-clause-layings
returns-clause-layings c = from_some (LayingsHold layings) (all_hold layings) tt

pub returns-clause-row_counts : goal.returns-clause-row_counts
returns-clause-row_counts c = from_some (LayingsHold row_counts) (all_hold row_counts) tt

pub returns-clause-laid_sizes : goal.returns-clause-laid_sizes
returns-clause-laid_sizes c = from_some (LayingsHold laid_sizes) (all_hold laid_sizes) tt

pub returns-clause-row_fields : goal.returns-clause-row_fields
returns-clause-row_fields c = from_some (LayingsHold row_fields) (all_hold row_fields) tt

pub returns-clause-area_ends : goal.returns-clause-area_ends
returns-clause-area_ends c = from_some (LayingsHold area_ends) (all_hold area_ends) tt

pub returns-clause-overlaps : goal.returns-clause-overlaps
returns-clause-overlaps c = from_some (LayingsHold overlaps) (all_hold overlaps) tt

pub returns-clause-orders : goal.returns-clause-orders
returns-clause-orders c = from_some (LayingsHold orders) (all_hold orders) tt
