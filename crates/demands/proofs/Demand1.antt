-- Demand 1 holds.
use Rattle.card.proofs.Exactly.{read_exactly, write_exactly}
use Rattle.card.proofs.Buffer.{refused_leaves}
use Rattle.demands.specs.Demand1.{Demand1}
use Rattle.demands.proofs.Answered.{sheets_exactly, tones_exactly, samples_exactly}
use Rattle.demands.proofs.Openings.{openings_exactly}
use Rattle.demands.proofs.Ridden.{rides_exactly}

pub demand_1 : Demand1
demand_1 =
    record {
      cards = read_exactly;
      writes = write_exactly;
      unwritten = refused_leaves;
      sheets = sheets_exactly;
      tones = tones_exactly;
      openings = openings_exactly;
      samples = samples_exactly;
      rides = rides_exactly;
    }
