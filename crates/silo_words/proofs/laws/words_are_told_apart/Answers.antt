use Rattle.std.proofs.Common.{◌≡◌, List, None, Some, true, refl, subst, inl, inr, rules, arith, codes}
use Rattle.clap.specs.Words.{Row, Text, first_of}
use Rattle.clap.specs.declared.error.kind.ErrorKind.TheVariants.{ArgumentConflict, UnknownArgument}
use Rattle.clap.specs.declared.error.kind.ErrorKind.TheVariants.{MissingSubcommand, MissingRequiredArgument, ValueValidation}
use Rattle.clap.proofs.OnLiterals.{clap_on_literals}
use Rattle.silo_words.specs.Words.{FindAnswering, FindData, IsAge, IsNumber, IsPlain, IsWorkers, MakesNoTask, is_unsynced}
use Rattle.silo_words.proofs.laws.words_are_told_apart.Goals as goal

-- ---- numbers

five : IsAge (Some (codes "5")) 5
five = search (rules, arith)

zero : IsNumber 1000 0 1000000 (Some (codes "0")) 0
zero = search (rules, arith)

eight : IsWorkers (Some (codes "8")) 8
eight = search (rules, arith)

-- what is no plain number makes no task
not_plain : (rows : List Row) (text : Text) → first_of (codes "sends") rows ≡ Some text → (IsPlain (Some text) → ⊥) → MakesNoTask (codes "answer") rows
not_plain rows text written never = record {
  steps = λ age ages tenants found. absurd (cc (found.command));
  answering = λ age ages sends journal tenants (found : FindAnswering (codes "answer") rows age ages sends journal tenants).
      never (subst IsPlain written found.behind.1);
  keeping = λ age ages sends folder sync tenants (found : FindData (codes "answer") rows age ages sends folder sync tenants).
      never (subst IsPlain written found.behind.1);
  serving = λ workers age ages journal telling tenants found. absurd (cc (found.command));
  audit = λ path found. absurd (cc (found.command));
  migration = λ path found. absurd (cc (found.command));
  listing = λ folder tenant found. absurd (cc (found.command));
}

-- a flag of a folder without the folder makes no task, nor a folder with a journal
no_folder : (rows : List Row) → first_of (codes "data") rows ≡ None → is_unsynced rows ≡ true → MakesNoTask (codes "answer") rows
no_folder rows none unsynced = record {
  steps = λ age ages tenants found. absurd (cc (found.command));
  answering = λ age ages sends journal tenants (found : FindAnswering (codes "answer") rows age ages sends journal tenants).
      absurd (cc (unsynced, found.synced));
  keeping = λ age ages sends folder sync tenants (found : FindData (codes "answer") rows age ages sends folder sync tenants).
      absurd (cc (none, found.given));
  serving = λ workers age ages journal telling tenants found. absurd (cc (found.command));
  audit = λ path found. absurd (cc (found.command));
  migration = λ path found. absurd (cc (found.command));
  listing = λ folder tenant found. absurd (cc (found.command));
}

both : (rows : List Row) (folder path : Text) → first_of (codes "data") rows ≡ Some folder → first_of (codes "journal") rows ≡ Some path
    → MakesNoTask (codes "answer") rows
both rows folder path given kept = record {
  steps = λ age ages tenants found. absurd (cc (found.command));
  answering = λ age ages sends journal tenants (found : FindAnswering (codes "answer") rows age ages sends journal tenants).
      absurd (cc (given, found.no_data));
  keeping = λ age ages sends other sync tenants (found : FindData (codes "answer") rows age ages sends other sync tenants).
      absurd (cc (kept, found.no_journal));
  serving = λ workers age ages journal telling tenants found. absurd (cc (found.command));
  audit = λ path found. absurd (cc (found.command));
  migration = λ path found. absurd (cc (found.command));
  listing = λ folder tenant found. absurd (cc (found.command));
}

signed : IsPlain (Some (codes "+5")) → ⊥
signed (inl e) = absurd (cc (e))
signed (inr h) = omega (arith, h.0)

padded : IsPlain (Some (codes "05")) → ⊥
padded (inl e) = absurd (cc (e))
padded (inr h) = omega (arith, h.0)

-- clap's own account, computed
pub returns : goal.returns
unfolding clap_on_literals
returns c = record {
  steps = record {
    taken = refl;
    name = codes "steps";
    rows = _;
    is = refl;
    found = record { command = refl; within = refl; aged = refl; named = refl };
  };
  aged = record {
    taken = refl;
    name = codes "steps";
    rows = _;
    is = refl;
    found = record { command = refl; within = five; aged = refl; named = refl };
  };
  answering = record {
    taken = refl;
    name = codes "answer";
    rows = _;
    is = refl;
    found = record { command = refl; within = refl; aged = refl; behind = (refl, tt); kept = refl; named = refl; no_data = refl; synced = refl };
  };
  undelivered = record {
    taken = refl;
    name = codes "answer";
    rows = _;
    is = refl;
    found = record { command = refl; within = refl; aged = refl; behind = (zero, inl refl); kept = refl; named = refl; no_data = refl; synced = refl };
  };
  keeping = record {
    taken = refl;
    name = codes "answer";
    rows = _;
    is = refl;
    found = record {
      command = refl;
      within = refl;
      aged = refl;
      behind = (refl, tt);
      given = refl;
      synced = refl;
      no_journal = refl;
      named = refl;
    };
  };
  unsynced = record {
    taken = refl;
    name = codes "answer";
    rows = _;
    is = refl;
    found = record {
      command = refl;
      within = refl;
      aged = refl;
      behind = (zero, inl refl);
      given = refl;
      synced = refl;
      no_journal = refl;
      named = refl;
    };
  };
  serving = record {
    taken = refl;
    name = codes "serve";
    rows = _;
    is = refl;
    found = record { command = refl; shared = refl; within = refl; aged = refl; kept = refl; told = (refl, refl); named = refl };
  };
  journaled = record {
    taken = refl;
    name = codes "serve";
    rows = _;
    is = refl;
    found = record { command = refl; shared = eight; within = five; aged = refl; kept = refl; told = (refl, refl); named = refl };
  };
  explained = record {
    taken = refl;
    name = codes "serve";
    rows = _;
    is = refl;
    found = record { command = refl; shared = refl; within = refl; aged = refl; kept = refl; told = (refl, refl); named = refl };
  };
  summed_up = record {
    taken = refl;
    name = codes "serve";
    rows = _;
    is = refl;
    found = record { command = refl; shared = refl; within = refl; aged = refl; kept = refl; told = (refl, refl); named = refl };
  };
  audit = record { taken = refl; name = codes "audit"; rows = _; is = refl; found = record { command = refl; given = refl } };
  migration = record { taken = refl; name = codes "migrate"; rows = _; is = refl; found = record { command = refl; given = refl } };
  listing = record { taken = refl; name = codes "rows"; rows = _; is = refl; found = record { command = refl; given = refl; chosen = refl } };
  listing_one = record { taken = refl; name = codes "rows"; rows = _; is = refl; found = record { command = refl; given = refl; chosen = refl } };
  help = inl refl;
  help_of_steps = inl refl;
  help_of_answer = inl refl;
  help_of_serve = inl refl;
  help_of_migrate = inl refl;
  help_of_rows = inl refl;
  version = inl refl;
  nothing = (MissingSubcommand, (λ e. absurd cc), (λ e. absurd cc), inl refl);
  no_age = (ValueValidation, (λ e. absurd cc), (λ e. absurd cc), inl refl);
  ages_twice = (ArgumentConflict, (λ e. absurd cc), (λ e. absurd cc), inl refl);
  no_tenant = (MissingRequiredArgument, (λ e. absurd cc), (λ e. absurd cc), inl refl);
  no_worker = (ValueValidation, (λ e. absurd cc), (λ e. absurd cc), inl refl);
  too_many_workers = (ValueValidation, (λ e. absurd cc), (λ e. absurd cc), inl refl);
  explained_twice = (ArgumentConflict, (λ e. absurd cc), (λ e. absurd cc), inl refl);
  too_many_deliveries = (ValueValidation, (λ e. absurd cc), (λ e. absurd cc), inl refl);
  signed_deliveries = (refl, record { name = codes "answer"; rows = _; is = refl; none = not_plain _ (codes "+5") refl signed });
  padded_deliveries = (refl, record { name = codes "answer"; rows = _; is = refl; none = not_plain _ (codes "05") refl padded });
  no_data = (refl, record { name = codes "answer"; rows = _; is = refl; none = no_folder _ refl refl });
  data_and_journal = (refl, record { name = codes "answer"; rows = _; is = refl; none = both _ (codes "kept") (codes "day") refl refl });
  data_twice = (ArgumentConflict, (λ e. absurd cc), (λ e. absurd cc), inl refl);
  no_tenant_to_answer = (MissingRequiredArgument, (λ e. absurd cc), (λ e. absurd cc), inl refl);
  no_tenant_to_serve = (MissingRequiredArgument, (λ e. absurd cc), (λ e. absurd cc), inl refl);
  no_path = (MissingRequiredArgument, (λ e. absurd cc), (λ e. absurd cc), inl refl);
  no_path_to_migrate = (MissingRequiredArgument, (λ e. absurd cc), (λ e. absurd cc), inl refl);
  no_folder_to_list = (MissingRequiredArgument, (λ e. absurd cc), (λ e. absurd cc), inl refl);
  two_tenants_to_list = (UnknownArgument, (λ e. absurd cc), (λ e. absurd cc), inl refl);
}
