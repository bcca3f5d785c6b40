-- What reading for a station gives: on the share's words W what the call without stations gives for a table as large, or 22. Assumes nothing.
use Rattle.std.specs.Prelude.{◌≡◌, List, ℕ, length, Result, Ok, Err}
use Rattle.shares.specs.declared.Station.{Station}
use Rattle.shares.specs.declared.NotSplit.{NotSplit}
use Rattle.shares.specs.Share.{no_share, on_share, table_on}
use Rattle.read_answer.specs.declared.Answer.{Answer as ReaderAnswer}
use Rattle.read_answer.specs.Answers as reader
use Rattle.read_answer.specs.Answers.{reading, answer_of, table_of}
use Rattle.records.specs.Job.{body_of}
use Rattle.job.specs.Cards.{Answer as JobAnswer, answer_for, table_for}
use Rattle.job.specs.Cards as job

-- what is answered: as for a whole table, or 22
abbrev pub Answer : Type 0
Answer = Result ReaderAnswer NotSplit

abbrev pub CardAnswer : Type 0
CardAnswer = Result JobAnswer NotSplit

-- a message
unfoldable pub read_answer : ℕ → List ℕ → List ℕ → Answer
read_answer limit s W = Ok (answer_of (reading limit s (length W)))

unfoldable pub read_words : ℕ → List ℕ → List ℕ → List ℕ
read_words limit s W = table_of (length W) (reading limit s (length W))

-- what a call did for a station with a message s, and a table T that is T' after it
pub record ReadFor (limit : ℕ) (s : List ℕ) (station : Station) (split : ℕ) (T T' : List ℕ) (a : Answer) : Type 0 where
  pub says : a ≡ on_share station split T (read_answer limit s) (Err no_share)
  pub leaves : T' ≡ table_on station split T (read_words limit s)

-- card n of a job file
unfoldable pub card_answer : List ℕ → ℕ → List ℕ → CardAnswer
card_answer s n W = Ok (answer_for s (length W) (body_of s n))

unfoldable pub card_words : List ℕ → ℕ → List ℕ → List ℕ
card_words s n W = table_for s (length W) (body_of s n)

pub record CardFor (s : List ℕ) (n : ℕ) (station : Station) (split : ℕ) (T T' : List ℕ) (a : CardAnswer) : Type 0 where
  pub says : a ≡ on_share station split T (card_answer s n) (Err no_share)
  pub leaves : T' ≡ table_on station split T (card_words s n)

-- the numbers that the papers give for an answer
abbrev pub report_of : Answer → reader.Report
report_of (Ok a) = reader.report_of a
report_of (Err e) = record { number = 22; rows = 0; used = 0; place = 0 }

abbrev pub card_report_of : CardAnswer → job.Report
card_report_of (Ok a) = job.report_of a
card_report_of (Err e) = record { number = 22; rows = 0; used = 0; place = 0; body = 0 }
