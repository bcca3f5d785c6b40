use borrow.Author.Rules.{rules}
use Rattle.rereading.proofs.Trying.{trying}
use Rattle.rereading.proofs.try_part.Statement.{statement}
use Rattle.rereading.proofs.try_part.Tie as tie
use Rattle.rereading.proofs.try_part.Reads as reads
use Rattle.rereading.proofs.try_part.Lts as lts
use Rattle.draft.proofs.number.Reads as number_reads
use Rattle.reader.proofs.read.Reads as read-reads
use Rattle.rereading.proofs.read_part.Reads as read-part-reads

-- src/lib.rt:22:9
read_part_requires : tie.Need-read_part-answer-requires
read_part_requires c κs = search rules

-- src/lib.rt:24:72
enum_told : tie.Need-enum_told-1
enum_told c = search rules

-- src/lib.rt:24:50
read_requires : tie.Need-read-requires
read_requires c κs = search rules

-- src/lib.rt:25:27
enum_known_answer : tie.Need-enum_known-answer
enum_known_answer c = search rules

-- src/lib.rt:26:16
number_requires : tie.Need-number-requires
number_requires c κs = search rules

-- src/lib.rt:27:17
same_length : tie.Need-shape_of-table-then-number-eq1
same_length c = search rules

-- src/lib.rt:27:17
returns : tie.Need-returns-then-number-eq1
returns c = search trying

-- src/lib.rt:29:13
read_requires_2 : tie.Need-read-requires-in-Refused
read_requires_2 c κs = search rules

-- src/lib.rt:18:1
same_length_2 : tie.Need-shape_of-table-in-Accepted
same_length_2 c = search rules

-- src/lib.rt:18:1
returns-2 : tie.Need-returns-in-Accepted
returns-2 c = search trying

-- src/lib.rt:18:1
same_length_3 : tie.Need-shape_of-table-else-number-eq1
same_length_3 c = search rules

-- src/lib.rt:18:1
returns-3 : tie.Need-returns-else-number-eq1
returns-3 c = search trying

pub try_part_spec : {M : Type 1} → statement M
try_part_spec =
    tie.close
    (tie.spec
    read_part_requires
    enum_told
    read_requires
    enum_known_answer
    number_requires
    same_length
    returns
    read_requires_2
    same_length_2
    returns-2
    same_length_3
    returns-3)
