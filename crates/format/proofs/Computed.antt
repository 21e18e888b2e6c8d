-- The examples hold, each by computation.
use Rattle.std.proofs.Common.{◌≡◌, refl}
use Rattle.format.specs.Table.{table_of, table_bytes, compile_answer}
use Rattle.format.specs.Reader.{read_glyph}
use Rattle.format.specs.Worked.{given, wanted, OneAnswers}
use Rattle.format.specs.Rules.{RulesHold}
use Rattle.format.specs.Refusals.{RefusalsHold}
use Rattle.format.specs.Edges.{read_all, ReadsBack, many, long_lists, EdgesReadBack}
use Rattle.format.specs.Faults.{FaultsFound}

pub worked : given ≡ wanted
unfolding given
worked = refl

pub one_answers : OneAnswers
unfolding compile_answer table_bytes table_of read_glyph
one_answers = record { reads_back = refl; cut_short = refl; no_such_glyph = refl; room_for_it = refl; too_little_room = refl }

pub rules_hold : RulesHold
unfolding table_bytes table_of
rules_hold =
    record {
      cuts = refl;
      gap_cuts = refl;
      ties = refl;
      best_points = (refl, refl, refl, refl);
      no_region = refl;
      short_or_long = (refl, refl);
    }

pub refusals_hold : RefusalsHold
unfolding compile_answer table_bytes table_of
refusals_hold =
    record {
      layers = refl;
      axis_counts = (refl, refl);
      of_glyph = refl;
      of_variation = refl;
      of_compile = (refl, refl, refl);
      cells_used = (refl, refl);
    }

pub edges_read_back : EdgesReadBack
unfolding many long_lists ReadsBack read_all read_glyph table_bytes table_of
edges_read_back =
    record {
      no_axes = refl;
      no_deltas = refl;
      all_optional = refl;
      reads_many = refl;
      many_shares = refl;
      reads_long_lists = refl;
      stored_sparse = (refl, refl, refl);
      empty_set = refl;
      any_number_of_points = (refl, refl);
    }

pub faults_found : FaultsFound
unfolding read_glyph
faults_found = refl
