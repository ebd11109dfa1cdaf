-- The six cases: the model is computed, and a rehearsal stands where it stands.
use Rattle.std.proofs.Common.{◌≡◌, List, map, get_or, refl, sym, ap, ◌∙◌}
use Rattle.std.proofs.lemmas.List.{get_or-map}
use Rattle.bookings.specs.Books as books
use Rattle.entry_log.specs.Vectors as vectors
use Rattle.journal.specs.History.{state_in}
use Rattle.replica.specs.Parcels as parcels
use Rattle.network.specs.Cases.{Answer, unknown, Row, SixCases, SixCasesPlayed, Played, answer_of, asked, table}
use Rattle.network.specs.Items as items
use Rattle.network.specs.Net as net
use Rattle.replica.specs.Model as replicas
use Rattle.network.specs.Stages.{huts_of}
use Rattle.network.proofs.Stands.{state_kept}

-- each row's answer is what the model computes
computed : map answer_of table ≡ map (λ r. r.answer) table
unfolding books.row net.run net.take_nth items.items_taken parcels.parcel_of vectors.no_stamps vectors.covers vectors.vector_of replicas.leader
computed = refl

pub six_cases : SixCases
six_cases k d within =
    sym (get_or-map answer_of table k d unknown within) ∙ ap (λ (answers : List Answer). get_or answers k unknown) computed
    ∙ get_or-map (λ r. r.answer) table k d unknown within

-- a replica of a rehearsal answers as that of the model
played : (r : Row) → answer_of r ≡ r.answer → Played r
played r is s p stands within same =
    ap (λ x. asked x (net.after r.events).sent r.question)
    (state_kept s s p within r.events stands ∙ ap (λ h. state_in ((net.after r.events).hut h)) same)
    ∙ is

pub six_cases_played : SixCasesPlayed
six_cases_played k d within = played (get_or table k d) (six_cases k d within)
