-- "Accepted text read and written again gives its own bytes; accepted words written and read again give their own words."
-- Of the contracts of `read_text` and `write_text` as the check states them: whatever the two calls answer, if they meet these.
use Prim.Native.Nat.{ℕ}
use contract.Lifetimes.{Lfts}
use denote.Triple.Clauses.{AtExit}
use borrow.Fn.Kinds.{Dens, ended_of}
use native.Mathlib.Omega.{arith}
use Rattle.promises.specs.Again.{Call, Again, GivesBack, Words}
use Rattle.promises.proofs.RoundTrips.{read_write, write_read}
use Rattle.reading.proofs.read_text.Kinds as read-kinds
use Rattle.reading.proofs.read_text.Reads as read-text
use Rattle.writing.proofs.write_text.Kinds as write-kinds
use Rattle.writing.proofs.write_text.Reads as write-text
use Rattle.rules.specs.Answer.{Answer}

-- a call of `read_text`, with arguments a, and one of `write_text`, with arguments b; s and t are what they left, x and y their answers
module _ (κs κs' : Lfts 2) (x y : Answer ℕ)
    (a : Dens κs read-kinds.ps) (s : AtExit (ended_of 2 read-kinds.ps read-kinds.r) κs)
    (b : Dens κs' write-kinds.ps) (t : AtExit (ended_of 2 write-kinds.ps write-kinds.r) κs') where
  abbrev pub reads : Call
  reads = record { given = a.0.now; room = a.1.0.now; answer = x; after = s.1.0.now }

  abbrev pub writes : Call
  writes = record { given = b.0.now; room = b.1.0.now; answer = y; after = t.1.0.now }

  -- text, read and written again
  pub text_again : read-text.Post κs a x s → write-text.Post κs' b y t → Again reads writes → GivesBack reads writes
  text_again read written again = read_write 4 (omega arith) reads writes read written again

  -- words, written and read again
  pub words_again : read-text.Post κs a x s → write-text.Post κs' b y t → Words b.0.now → Again writes reads → GivesBack writes reads
  words_again read written small again = write_read 4 (omega arith) writes reads small written read again
