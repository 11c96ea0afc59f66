-- The system of clauses, about which a search answers.
use Rattle.std.specs.Prelude.{ℕ, List, length, Option, false}
use Rattle.text_rules.specs.Names.{Name}
use Rattle.state_rules.specs.Cases.{Case}
use Rattle.state_rules.specs.Systems.{System, open_texts}
use Rattle.clause_encoder.specs.Clauses.{ClauseList}
use Rattle.clause_answers.specs.Questions.{Question, models}
use Rattle.session_rules.specs.GraphSystems.{case_evidence}
use Rattle.session_rules.specs.CaseEvidence.{case_of_evidence}
use Rattle.engines.specs.Answers.{About}

-- What a search is about: the names of parts and wires, the cost of each part's failure, clauses whose variables are the parts, then the
-- wires, then inner ones, and the greatest cost of listed states, if they are listed.
pub record ClauseSubject : Type 0 where
  pub parts : List Name
  pub wires : List Name
  pub costs : List ℕ
  pub cnf : ClauseList
  pub levels : Option ℕ

-- the question about a case
abbrev pub question_of : ClauseSubject → Case → Question
question_of subject known = record { cnf = subject.cnf; costs = subject.costs; evidence = case_evidence subject.cnf.vars known }

-- The system whose states are those for which some bits make all clauses true. Its graphs are not written.
abbrev pub clause_system : ClauseSubject → System
clause_system subject = record {
  parts = subject.parts;
  wires = subject.wires;
  costs = subject.costs;
  consistent = λ known. models (question_of subject known);
  extras = record { levels = subject.levels; least = false };
  graphs = false;
  texts = open_texts;
}

-- what a search engine shows: its subject, and the words of the case in question
pub record OnClauses : Type 0 where
  pub subject : ClauseSubject
  pub known : List ℕ

-- what it answers about
abbrev pub about_of : OnClauses → About
about_of engine = record {
  system = clause_system engine.subject;
  known = case_of_evidence (length engine.subject.parts) (length engine.subject.wires) engine.known;
}
