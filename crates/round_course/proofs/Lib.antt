mod CourseLemmas
