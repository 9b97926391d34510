-- A run whose flags are a number, as a sender passes them (docs/DECISIONS.md, 'For senders, and the comparison').
use Rattle.std.specs.Prelude.{cond, List, [], ℕ, Option}
use Rattle.error.specs.declared.Error.TheVariants.{WrongCall}
use Rattle.error.specs.Answer.{done, number_of}
use Rattle.formatting.specs.FlagsAsNumber.{are_flags, flags_of}
use Rattle.calls.specs.declared.Settings.{Settings}
use Rattle.calls.specs.Call.{Call, hold}
use Rattle.calls.specs.Model.{Mode, Run, counting, writing, start, beyond}
use Rattle.encoded_call.specs.Encoding.{decode}
use Rattle.run.specs.Played.{run_or, Played, ended}

-- 'For senders': 12 and above are no flags: 8
abbrev pub flags_fault : ℕ → ℕ
flags_fault n = cond (are_flags n) (done) (number_of WrongCall)

-- 'For senders': and then nothing is played
abbrev pub calls_by : ℕ → List (Option Call) → List (Option Call)
calls_by n ds = cond (are_flags n) ds []

-- 'For senders': the settings of a run are its flags
abbrev pub settings_by : ℕ → Settings
settings_by n = record { flags = flags_of n }

-- Document 01, 'A nested record': a fresh run
abbrev pub run_by : Mode → List ℕ → ℕ → List (Option Call) → Run
run_by m b n ds = run_or (start m b (settings_by n)) (calls_by n ds)

-- Document 01, 'The answer to a call', order: 9, then 8; the end of a fresh run
abbrev pub played_by : Mode → List ℕ → ℕ → List (Option Call) → Played
played_by m b n ds = ended (hold (beyond m b) (flags_fault n)) (run_by m b n ds)

-- 'For senders': the end of a run of words over a pool that is counted, and each call's answer
abbrev pub count_end : ℕ → List ℕ → List ℕ → Played
count_end n words pool = played_by (counting 0) [] n (decode words pool)

abbrev pub count_answers : ℕ → List ℕ → List ℕ → List ℕ
count_answers n words pool = (run_by (counting 0) [] n (decode words pool)).answers

-- 'For senders': the same of one that is written from p into b
abbrev pub write_end : ℕ → List ℕ → ℕ → List ℕ → List ℕ → Played
write_end n b p words pool = played_by (writing p) b n (decode words pool)

abbrev pub write_answers : ℕ → List ℕ → ℕ → List ℕ → List ℕ → List ℕ
write_answers n b p words pool = (run_by (writing p) b n (decode words pool)).answers
