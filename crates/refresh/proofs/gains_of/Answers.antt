use Rattle.refresh.proofs.gains_of.Goals as goal

pub returns : goal.returns
returns c =
    simp (
      c.f32_of-16.ensures,
      c.f32_of-15.ensures,
      c.f32_of-14.ensures,
      c.f32_of-13.ensures,
      c.f32_of-12.ensures,
      c.f32_of-11.ensures,
      c.f32_of-10.ensures,
      c.f32_of-9.ensures,
      c.f32_of-8.ensures,
      c.f32_of-7.ensures,
      c.f32_of-6.ensures,
      c.f32_of-5.ensures,
      c.f32_of-4.ensures,
      c.f32_of-3.ensures,
      c.f32_of-2.ensures,
      c.f32_of.ensures,
    )
