mod Stack
