use borrow.Author.Rules.{rules}
use Rattle.rereading.proofs.Trying.{trying}
use Rattle.rereading.proofs.read_again.Statement.{statement}
use Rattle.rereading.proofs.read_again.Tie as tie
use Rattle.rereading.proofs.read_again.Reads as reads
use Rattle.rereading.proofs.read_again.Lts as lts
use Rattle.reader.proofs.read.Reads as read-reads
use Rattle.rereading.proofs.try_part.Reads as try-part-reads

-- src/lib.rt:39:9
read_requires : tie.Need-read-requires
read_requires c κs = search rules

-- src/lib.rt:39:9
same_length : tie.Need-shape_of-table-then-wanted-eq0
same_length c = search rules

-- src/lib.rt:39:9
returns : tie.Need-returns-then-wanted-eq0
returns c = search trying

-- src/lib.rt:42:9
read_requires_2 : tie.Need-read-requires-then-table-message
read_requires_2 c κs = search rules

-- src/lib.rt:42:9
same_length_2 : tie.Need-shape_of-table-then-table-message
same_length_2 c = search rules

-- src/lib.rt:42:9
returns-2 : tie.Need-returns-then-table-message
returns-2 c = search trying

-- src/lib.rt:44:30
mul_try_part : tie.Need-overflow_mul-message
mul_try_part c = search rules

-- src/lib.rt:44:5
try_part_requires : tie.Need-try_part-requires
try_part_requires c κs = search rules

-- src/lib.rt:35:1
same_length_3 : tie.Need-shape_of-table
same_length_3 c = search rules

-- src/lib.rt:35:1
returns-3 : tie.Need-returns
returns-3 c = search trying

pub read_again_spec : {M : Type 1} → statement M
read_again_spec =
    tie.close
    (tie.spec
    read_requires
    same_length
    returns
    read_requires_2
    same_length_2
    returns-2
    mul_try_part
    try_part_requires
    same_length_3
    returns-3)
