-- The system of a service over a graph, its texts left open, is that of the graph.
use Rattle.std.proofs.Common.{◌≡◌, refl}
use Rattle.session_rules.specs.GraphSystems.{Subject, system_of}
use Rattle.session_core.specs.Services.{Held, open_system, shown_by}
use Rattle.graph_engine.specs.Served.{OnGraph, about_of, served_system}

pub opened : (subject : Subject) → open_system (served_system subject) ≡ system_of subject
opened subject = refl

-- the same of what a service shows
pub opened-shown : (service : Held OnGraph) → open_system (shown_by about_of service).system ≡ system_of service.engine.subject
opened-shown service = opened service.engine.subject
