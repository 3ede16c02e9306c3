-- What files claim of themselves before and after a run.
use Rattle.std.specs.Prelude.{◌≡◌, ℕ, List}

-- What is known of files: that they are as they were; that one write of the bytes to the path, and nothing else, left them as
-- they are, or two writes to the path, of these bytes and then of those; that the file at the path may have these bytes now;
-- that a call at the path could fail before; and that it could fail behind one write of the bytes to the path.
pub record FileClaims : Type 1 where
  pub same : Type 0
  pub written : List ℕ → List ℕ → Type 0
  pub written_again : List ℕ → List ℕ → List ℕ → Type 0
  pub may_hold : List ℕ → List ℕ → Type 0
  pub may_fail : List ℕ → Type 0
  pub may_fail_again : List ℕ → List ℕ → Type 0

-- the same by what a kind of files claims
module _ {F : Type 0} (may_hold : F → List ℕ → List ℕ → Type 0) (may_fail : F → List ℕ → Type 0)
    (may_leave : F → List ℕ → List ℕ → F → Type 0) where
  abbrev pub claims : F → F → FileClaims
  claims old new = record {
    same = new ≡ old;
    written = λ path bytes. may_leave old path bytes new;
    written_again = λ path first second. (between : F) × may_leave old path first between × may_leave between path second new;
    may_hold = may_hold new;
    may_fail = may_fail old;
    may_fail_again = λ path first. (between : F) × may_leave old path first between × may_fail between path;
  }
