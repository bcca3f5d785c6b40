use Rattle.row_length.proofs.Lengths.{lengths, one_long, five_long}
use Rattle.row_length.proofs.item_length.Goals as goal

pub returns-in-Call : goal.returns-in-Call
returns-in-Call c = one_long _ _ c.item_of.ensures c.in-Call.is

pub returns-in-Fault : goal.returns-in-Fault
returns-in-Fault c = search lengths

pub returns-in-Integer : goal.returns-in-Integer
returns-in-Integer c = five_long _ _ c.item_of.ensures c.in-Integer.is

pub returns-in-Content : goal.returns-in-Content
returns-in-Content c = search lengths

pub returns-in-Unknown : goal.returns-in-Unknown
returns-in-Unknown c = search lengths
